-- A store whose desk refuses everything, as busy.
use Rattle.machine.specs.Calls.{refuse}
use Rattle.machine.specs.Steps.{Store, machine}

abbrev pub refuses_all : Store
refuses_all =
    record {
      transfer = machine.transfer;
      share = machine.share;
      serve = machine.serve;
      begin = λ c x t note. refuse 8 x;
      ask = λ c d x i place size. refuse 8 x;
      hear = λ c d x m. refuse 8 x;
      result = λ x. refuse 8 x;
      drop = λ x. refuse 8 x;
    }
