-- A desk does what the machine's does: begin, ask, result and drop, on the record for what the machine's desk is.
use Rattle.std.specs.Prelude.{Ok, Err}
use Prim.Native.Nat.{ℕ, ◌≤◌, ◌<◌}
use native.Mathlib.Omega.{arith}
use mathlib.Core.Path.{◌≡◌, refl, sym, ap, ap₂, ◌∙◌}
use mathlib.Core.Logic.{inl, inr, ⊎_elim}
use mathlib.Core.Bool.{Bool, true, false, cond}
use mathlib.Core.List.{List, [], ◌∷◌, map}
use borrow.Author.Tests.{lt-ltb, le-ltb, le-leb, lt-leb}
use lib.Dec.{eqb, leb, ltb}
use lib.ListN.{length}
use Rattle.config.proofs.Clusters.{lawful-valid}
use Rattle.quorums.proofs.Tests.{le-or-lt, eqb_comm}
use Rattle.config.specs.Cluster.{lawful_of}
use Rattle.config.specs.declared.cluster.Config.{Config}
use Rattle.config.specs.Refusals.{refusal}
use Rattle.ledger.specs.Maps.{named, map_of}
use Rattle.ledger.proofs.Maps.{below-named}
use Rattle.message.specs.Cursors.{within}
use Rattle.replica.specs.Values.{value_of}
use Rattle.replica.specs.Registers.{trimmed, register_fits}
use Rattle.message.specs.Envelopes.{request, message_of}
use Rattle.message.specs.Answers.{Written, place}
use Rattle.replica.proofs.Values.{value-fits, empty-fits}
use Rattle.replica.proofs.Registers.{start_fits}
use Rattle.desk.specs.declared.record.Desk.{Desk}
use Rattle.desk.specs.Operations.{running as running_mode, ended as ended_mode, reading, writing, phase_lawful, fits as fits_operation}
use Rattle.desk.specs.Desks.{number_lawful, fits, accepted, refused}
use Rattle.desk.specs.Begins.{begun, begin_of, start_of, dropped, drop_of}
use Rattle.desk.specs.Asks.{unwritten, ask_of}
use Rattle.desk.specs.Results.{told as told_of, result_of}
use Rattle.desk.proofs.Marks.{marked-names, marked-map}
use Rattle.desk.proofs.Operations.{told-operation, mode-later, kind_fits, none-answered, none-fits}
use Rattle.desk.proofs.Desks.{told-fits}
use Rattle.machine.specs.Parties.{Register, Message, bytes_of, Task, read, write, value_of as task_value, by-task, Phase, first, second, Operation, Result, Activity, idle, running, ended, if-running, if-ended, Desk as PlainDesk, answered}
use Rattle.machine.specs.Runs.{Answer, done, told}
use Rattle.machine.specs.Calls.{most_round, most_value, accept, refuse, send, request_of, begun as begun_by, begin_by, ask_by, result_by, dropped as dropped_by, drop_by}
use Rattle.machine.proofs.Lists.{In}
use Rattle.machine.proofs.Moves.{Seated}
use Rattle.machine.proofs.WorkRanges.{ActivityRange}
use Rattle.machine.proofs.Ranges.{RegisterRange, DeskRange}
use Rattle.runs.specs.Calls.{Called, desk_called, written_called, told_answer, plain_register, begin_call, ask_call, result_call, drop_call}
use Rattle.runs.proofs.Records.{register_for, replica_for, map_for, kind_for, phase_for, chosen_for, operation_for, desk_for, envelope_for, called_for, Held}
use Rattle.runs.proofs.Registers.{register-back, trimmed-for, register-fits}
use Rattle.runs.proofs.Messages.{replica-fits, message-for, placed-answer, placed-sent, send-same}

-- ---- the map of the servers that answered

-- it names them
pub map-names : (l : List Message) (i : ℕ) → named (map_for l) i ≡ answered l i
unfolding map_for answered
map-names [] i = below-named 0 0 i (omega arith) (omega arith)
map-names (m ∷ l) i = marked-names (map_for l) m.server i ∙ ap₂ {C = Bool} (λ a b. cond a true b) (eqb_comm i m.server) (map-names l i)

-- and is a map of the cluster
pub map-inside : (c : Config) → lawful_of c ≡ true → (l : List Message) → ((m : Message) → In m l → m.server < c.n) → map_of c (map_for l) ≡ true
unfolding map_for
map-inside c valid [] e = none-answered c (lawful-valid c valid)
map-inside c valid (m ∷ l) e = marked-map c (map_for l) m.server (e m (inl refl)) (map-inside c valid l (λ k i. e k (inr i)))

-- ---- the operation

-- kinds, phases and chosen registers are lawful

task-kind : (t : Task) → within reading writing (kind_for t) ≡ true
unfolding within
task-kind read = refl
task-kind (write v) = refl

told-kind : (b : Bool) → within reading writing (cond b writing reading) ≡ true
unfolding within
told-kind true = refl
told-kind false = refl

phase-lawful : (p : Phase) → phase_lawful running_mode (phase_for p) ≡ true
unfolding phase_lawful within
phase-lawful first = refl
phase-lawful (second g) = refl

chosen-fits : (c : Config) (p : Phase) → ((g : Register) → p ≡ second g → RegisterRange c g) → register_fits c (chosen_for p) ≡ true
chosen-fits c first e = start_fits c
chosen-fits c (second g) e = register-fits c g (e g refl)

-- its test passes, whatever the desk does
operation-fits : (c : Config) → lawful_of c ≡ true → (sent : List Message) (d round : ℕ) (a : Activity) → ActivityRange c sent d round a
    → ((o : Operation) (g : Register) → a ≡ running o → o.phase ≡ second g → RegisterRange c g)
    → ((y : Result) → a ≡ ended y → RegisterRange c y.register)
    → fits_operation c round (operation_for a) ≡ true
unfolding phase_lawful
operation-fits c valid sent d round idle w chosen result = none-fits c round (lawful-valid c valid)
operation-fits c valid sent d round (running o) w chosen result =
    told-operation c round (operation_for (running o)) (record {
      mode-in = mode-later running_mode round (omega arith) w.begun;
      kind-in = kind_fits running_mode (kind_for o.task) (task-kind o.task);
      phase-in = phase-lawful o.phase;
      answered-in = map-inside c valid o.heard (λ m i. (w.heard m i).1);
      restarts-in = w.restarts;
      value-fits = value-fits (task_value o.task) ∙ le-leb (length (task_value o.task)) most_value w.short;
      chosen-fits = chosen-fits c o.phase (λ g e. chosen o g refl e);
    })
operation-fits c valid sent d round (ended y) w chosen result =
    told-operation c round (operation_for (ended y)) (record {
      mode-in = mode-later ended_mode round (omega arith) w.begun;
      kind-in = kind_fits ended_mode (cond y.is-write writing reading) (told-kind y.is-write);
      phase-in = refl;
      answered-in = none-answered c (lawful-valid c valid);
      restarts-in = w.restarts;
      value-fits = empty-fits;
      chosen-fits = register-fits c y.register (result y refl);
    })

-- desks have numbers that the record test takes
number-lawful : (d : ℕ) → Seated d → number_lawful d ≡ true
unfolding number_lawful
number-lawful d s = rw (le-leb 1 d s.some) (le-leb d 65535 s.most)

-- ---- the calls

module _ (c : Config) (valid : lawful_of c ≡ true) (sent : List Message) (d : ℕ) (seated : Seated d) (x : PlainDesk) (w : DeskRange c sent d x) (h : Held c x.replica) where
  -- the record test passes
  pub desk-fits : fits (desk_for c d x) ≡ true
  desk-fits =
      told-fits (desk_for c d x) (record {
        number_in = number-lawful d seated;
        replica-fits = replica-fits c valid x.replica h;
        operation-fits = operation-fits c valid sent d x.round x.activity w.work.activity w.chosen w.told;
      })

  -- where no operation runs, a begin of a value that is not too long
  begun-for : (t : Task) (note : ℕ)
      → desk_called
      (cond (ltb x.round most_round) (accepted (begun (desk_for c d x) (kind_for t) (value_of (task_value t)) note)) (refused (refusal 12) (desk_for c d x)))
      ≡ called_for c (desk_for c d) (cond (leb most_round x.round) (refuse 12 x) (accept done (begun_by x t note)))
  unfolding map_for
  begun-for t note =
      ⊎_elim (λ (l : most_round ≤ x.round). rw (le-ltb x.round most_round l, le-leb most_round x.round l) refl)
      (λ (l : x.round < most_round). rw (lt-ltb x.round most_round l, lt-leb most_round x.round l) refl)
      (le-or-lt most_round x.round)

  -- and whatever the desk does
  start-for : (t : Task) (note : ℕ) (a : Activity)
      → desk_called
      (cond (eqb (operation_for a).mode running_mode) (refused (refusal 8) (desk_for c d x))
      (cond (ltb x.round most_round) (accepted (begun (desk_for c d x) (kind_for t) (value_of (task_value t)) note)) (refused (refusal 12) (desk_for c d x))))
      ≡ called_for c (desk_for c d)
      (if-running a (λ o. refuse 8 x) (cond (leb most_round x.round) (refuse 12 x) (accept done (begun_by x t note))))
  start-for t note idle = begun-for t note
  start-for t note (running o) = refl
  start-for t note (ended y) = begun-for t note

  -- a read begins with an empty value
  kind-of : (t : Task) (note : ℕ)
      → by-task t (begin_of (desk_for c d x) reading [] note) (λ v. begin_of (desk_for c d x) writing v note)
      ≡ begin_of (desk_for c d x) (kind_for t) (task_value t) note
  kind-of read note = refl
  kind-of (write v) note = refl

  -- 14, 8, then 12
  pub begin-for : (t : Task) (note : ℕ) → begin_call (desk_for c d x) t note ≡ called_for c (desk_for c d) (begin_by c x t note)
  unfolding begin_call begin_of start_of begin_by
  begin-for t note =
      ap desk_called (kind-of t note)
      ∙ ⊎_elim (λ (l : length (task_value t) ≤ most_value).
      rw (desk-fits, value-fits (task_value t) ∙ le-leb (length (task_value t)) most_value l, le-ltb most_value (length (task_value t)) l) (start-for t note x.activity))
      (λ (l : most_value < length (task_value t)).
      rw (desk-fits, value-fits (task_value t) ∙ lt-leb (length (task_value t)) most_value l, lt-ltb most_value (length (task_value t)) l) refl)
      (le-or-lt (length (task_value t)) most_value)

  -- a request that is written
  request-for : (m : Message) (at : ℕ) (out : List ℕ) → RegisterRange c m.replica.register
      → written_called (desk_for c d x) (place (message_of c (envelope_for m) (replica_for m.replica)) out at) at
      ≡ called_for c (desk_for c d) (send c x x m at (length out))
  request-for m at out r =
      ap (λ l. written_called (desk_for c d x) (place l out at) at) (message-for c m r)
      ∙ ap₂ {C = Called Desk} (λ a l. called a x l) (placed-answer c x x m at out) (placed-sent c x x m at out)
      ∙ ap (λ (y : PlainDesk). called (send c x x m at (length out)).answer y (map (bytes_of c) (send c x x m at (length out)).sent))
      (sym (send-same c x m at (length out)))
    where
      called : Answer → PlainDesk → List (List ℕ) → Called Desk
      called a y l = record { answer = a; party = desk_for c d y; sent = l }

  -- 9, 1, then 13
  pub ask-for : (i place : ℕ) (out : List ℕ) → ask_call (desk_for c d x) i place out ≡ called_for c (desk_for c d) (ask_by c d x i place (length out))
  unfolding ask_call ask_of ask_by
  ask-for i at out = rw desk-fits (by-activity x.activity)
    where
      asked : Activity → Bool → Written
      asked a b =
          cond (eqb (operation_for a).mode running_mode)
          (cond b
          (place
          (message_of c (record { kind = request; server = i; desk = d; round = x.round; note = (operation_for a).note }) (replica_for x.replica))
          out at)
          (unwritten (refusal 1) out))
          (unwritten (refusal 9) out)

      by-test : (o : Operation) (b : Bool)
          → written_called (desk_for c d x) (asked (running o) b) at
          ≡ called_for c (desk_for c d) (cond b (send c x x (request_of d x o i) at (length out)) (refuse 1 x))
      by-test o true = request-for (request_of d x o i) at out w.replica.register
      by-test o false = refl

      by-activity : (a : Activity)
          → written_called (desk_for c d x) (asked a (ltb i c.n)) at
          ≡ called_for c (desk_for c d)
          (if-running a (λ o. cond (ltb i c.n) (send c x x (request_of d x o i) at (length out)) (refuse 1 x)) (refuse 9 x))
      by-activity idle = refl
      by-activity (running o) = by-test o (ltb i c.n)
      by-activity (ended y) = refl

  -- the kind, the register as it was chosen, and the restarts; or 9
  pub result-for : result_call (desk_for c d x) ≡ called_for c (desk_for c d) (result_by x)
  unfolding result_call result_of result_by
  result-for = rw desk-fits (by-activity x.activity w.told)
    where
      called : Answer → Called Desk
      called a = record { answer = a; party = desk_for c d x; sent = [] }

      by_kind : (b : Bool) (g : Register) (restarts : ℕ) → plain_register (trimmed (register_for g)) ≡ g
          → told_answer (Ok (told_of (operation_for (ended (record { is-write = b; register = g; restarts = restarts })))))
          ≡ told (record { is-write = b; register = g; restarts = restarts })
      by_kind true g restarts e = ap (λ r. told (record { is-write = true; register = r; restarts = restarts })) e
      by_kind false g restarts e = ap (λ r. told (record { is-write = false; register = r; restarts = restarts })) e

      by-activity : (a : Activity) → ((y : Result) → a ≡ ended y → RegisterRange c y.register)
          → called (told_answer (cond (eqb (operation_for a).mode ended_mode) (Ok (told_of (operation_for a))) (Err (refusal 9))))
          ≡ called_for c (desk_for c d) (if-ended a (λ y. accept (told y) x) (refuse 9 x))
      by-activity idle r = refl
      by-activity (running o) r = refl
      by-activity (ended y) r =
          let g = y.register in
          ap called (by_kind y.is-write g y.restarts (ap plain_register (trimmed-for c g (r y refl)) ∙ register-back c g (r y refl)))

  -- gone, or 9
  pub drop-for : drop_call (desk_for c d x) ≡ called_for c (desk_for c d) (drop_by x)
  unfolding drop_call drop_of drop_by
  drop-for = rw desk-fits (by-activity x.activity)
    where
      by-activity : (a : Activity)
          → desk_called (cond (eqb (operation_for a).mode running_mode) (accepted (dropped (desk_for c d x))) (refused (refusal 9) (desk_for c d x)))
          ≡ called_for c (desk_for c d) (if-running a (λ o. accept done (dropped_by x)) (refuse 9 x))
      by-activity idle = refl
      by-activity (running o) = refl
      by-activity (ended y) = refl
