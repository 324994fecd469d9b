-- `count` meets its contract: one value of the list is changed.
use Rattle.reader.proofs.Keeping.{kept-count}
use Rattle.reader.proofs.keep.LedgerKeep.count.Goals as goal

pub returns : goal.returns
returns c counts cells h = kept-count h _ _ c.requires
