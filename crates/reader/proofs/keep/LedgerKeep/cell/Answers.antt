-- `cell` meets its contract: one value of the list is changed.
use Rattle.reader.proofs.Keeping.{kept-cell}
use Rattle.reader.proofs.keep.LedgerKeep.cell.Goals as goal

pub returns : goal.returns
returns c counts cells h = kept-cell h _ _ _ c.requires.0 c.requires.1
