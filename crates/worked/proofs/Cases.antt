-- Cases 1 to 11 of paper 01 ("Checked by the prover, as one group") as one theorem over the definitions of the calls, and its share in hex. Where a case
-- asks for a quorum, the answer is paper 02's number (N1).
use Rattle.std.specs.Prelude.{Ok, Err}
use Prim.Native.Nat.{ℕ, zero, suc, ◌+◌, ◌^◌, ◌<◌}
use native.Mathlib.Omega.{arith}
use mathlib.Core.Path.{◌≡◌, refl, ◌∙◌, subst}
use mathlib.Core.Bool.{true}
use mathlib.Core.List.{List, [], ◌∷◌, ◌++◌}
use lib.IntN.{pos, negsuc}
use lib.ListN.{replicate}
use Rattle.quorums.specs.Sum.{size, sum, sum_ℤ, all}
use Rattle.quorums.specs.Difference.{difference}
use Rattle.quorums.specs.Accounts.{weight, total, weight_in, margin, above}
use Rattle.config.specs.Cluster.{level, valid_of, server_of, start_of, total_of, above_of, stamp_bytes, config_of, lawful_of, ends_of, starts_above, kept_of, keeps, in_bounds}
use Rattle.config.specs.Refusals.{refusal, granted}
use Rattle.config.specs.Refusals.{Signed}
use Rattle.config.specs.Refusals.{Verdict}
use Rattle.ledger.specs.declared.ledger.Ledger.{Ledger}
use Rattle.ledger.specs.declared.ledger.Changed.{Changed}
use Rattle.ledger.specs.Ledgers.{fresh_ledger, count_of, cell_of, given_of, received_of, Typed as TypedLedger}
use Rattle.ledger.specs.Maps.{named, map_of}
use Rattle.ledger.specs.Weights.{weight_of, margin_of, quorum_answer}
use Rattle.ledger.specs.Checks.{may_hold, total_fits, bounded, above_floor}
use Rattle.quorums.specs.Tables.{run, table}
use Rattle.ledger.specs.Joins.{agree, later, joins, joined, join_answer}
use Rattle.ledger.specs.Changes.{lawful, spares, added}
use Rattle.ledger.proofs.Kept.{added-typed}
use Rattle.ledger.proofs.Fresh.{fresh-typed, fresh-count, fresh-cell}
use Rattle.format.specs.Bytes.{bytes, number, series, stands, marks, bit}
use Rattle.format.specs.Table.{register_mark, register, cell_map, cells, row_mark, row, row_map, rows, sheet, field_map, field_map_of, head, note, encode_fields}
use Rattle.message.specs.Envelopes.{message_of}
use Rattle.message.specs.Cursors.{within}
use Rattle.message.specs.Answers.{check, fits as room, over, place}
use Rattle.message.specs.Faults.{kind_number_fits, fault_of}
use Rattle.replica.specs.Values.{bytes_of}
use Rattle.replica.specs.Registers.{is_start, register_fits}
use Rattle.replica.specs.Replicas.{fits as fits_replica}
use Rattle.server.specs.declared.record.ServerAnswer.{ServerAnswer}
use Rattle.server.specs.Servers.{fits, open_of}
use Rattle.server.specs.Transfers.{give_of, transfer_of}
use Rattle.server.specs.Shares.{share_of}
use Rattle.seats.specs.Offers.{free_in, offered, offer_answer}
use Rattle.worked.proofs.Refusals.{five}
use Rattle.worked.proofs.Gifts.{by_floor, floor-decides}
use Rattle.worked.proofs.Quorums.{two-fresh}
use Rattle.worked.proofs.Messages.{share, sheet-only, share-number}

-- ---- what the cases are about

-- every fresh server of n, of which f may crash, is told v where it gives d to any other
abbrev pub Gives : (n f d : ℕ) → Verdict → Type 0
Gives n f d v = (i j : ℕ) → i < n → j < n → (i ≡ j → ⊥) → (transfer_of (open_of (level n f) i).server j d).verdict ≡ v

-- fresh server i of five gives 374 to 2
abbrev pub gave : ℕ → ServerAnswer
gave i = transfer_of (open_of (level 5 1) i).server 2 374

-- what 0 and 1 then hold, joined
abbrev pub union : Changed
union = join_answer (gave 0).server.replica.ledger (gave 1).server.replica.ledger

-- both gave, their ledgers join, and on the union a map gets its answer
pub record AfterBoth (map : ℕ) (answer : Signed) : Type 0 where
  pub first-accepted : (gave 0).verdict ≡ granted
  pub second-accepted : (gave 1).verdict ≡ granted
  pub join-accepted : union.verdict ≡ granted
  pub quorum-is : quorum_answer five union.ledger map ≡ answer

-- a share from 1, in which 1 gave 748 to j and nobody gave anything else: the map, kind, server and row map, then the row of 1
abbrev pub light-share : ℕ → List ℕ
light-share j =
    (0x00 ∷ 0x23 ∷ 0x03 ∷ 0x01 ∷ 0x00 ∷ 0x02 ∷ [])
    ++ (0x00 ∷ 0x01 ∷ 0x00 ∷ 2 ^ j ∷ 0x00 ∷ 0x00 ∷ 0x02 ∷ 0xEC ∷ [])

-- the same, in which 0 gave 374 to 1 besides: the row of 0 stands before that of 1
abbrev pub sound-share : ℕ → List ℕ
sound-share j =
    (0x00 ∷ 0x23 ∷ 0x03 ∷ 0x01 ∷ 0x00 ∷ 0x03 ∷ [])
    ++ (0x00 ∷ 0x01 ∷ 0x00 ∷ 0x02 ∷ 0x00 ∷ 0x00 ∷ 0x01 ∷ 0x76 ∷ [])
    ++ (0x00 ∷ 0x01 ∷ 0x00 ∷ 2 ^ j ∷ 0x00 ∷ 0x00 ∷ 0x02 ∷ 0xEC ∷ [])

-- both are the bytes of such a ledger by the table; the first reads 5, and the second has no fault
pub record Reads (j : ℕ) : Type 0 where
  pub light-bytes : message_of five (share 1) (sheet-only (added fresh_ledger 1 j 748)) ≡ light-share j
  pub light : check five (light-share j) ≡ 5
  pub sound-bytes : message_of five (share 1) (sheet-only (added (added fresh_ledger 0 1 374) 1 j 748)) ≡ sound-share j
  pub sound : check five (sound-share j) ≡ 0

-- case 11's value: of eight seats the first and the third are sold
abbrev pub two_sold : List ℕ
two_sold = 0xA0 ∷ []

-- ---- the cases

pub record Cases : Type 0 where
  -- "1: n=5 f=1, giving 374 of 1,000 passes"
  pub case-1 : Gives 5 1 374 granted
  -- "2: 375 is 10"
  pub case-2 : Gives 5 1 375 (Err (refusal 10))
  -- "3: n=4 f=1, 333 passes"
  pub case-3 : Gives 4 1 333 granted
  -- "4: 334 is 10"
  pub case-4 : Gives 4 1 334 (Err (refusal 10))
  -- "5: n=16 f=7, 111 passes"
  pub case-5 : Gives 16 7 111 granted
  -- "6: 112 is 10"
  pub case-6 : Gives 16 7 112 (Err (refusal 10))
  -- "7: n=4, two fresh servers aren't a quorum": any two, and any lawful f, give 0
  pub case-7 : (f m : ℕ) → in_bounds 4 f ≡ true → m < 2 ^ 4 → size 4 (named m) ≡ 2 → quorum_answer (config_of (level 4 f)) fresh_ledger m ≡ Ok (pos 0)
  -- "8: n=5 f=1, after 0 and 1 each give 374 to 2, servers 2 and 4 are": 2 × 2,748 − 5,000
  pub case-8 : AfterBoth (2 ^ 2 + 2 ^ 4) (Ok (pos 496))
  -- "9: 2 and 0 aren't": 2 × 2,374 − 5,000
  pub case-9 : AfterBoth (2 ^ 2 + 2 ^ 0) (Ok (negsuc 251))
  -- "10: n=5 f=1, a message where 1 gave 748, without 0's 374 to 1, reads 5": to any other server
  pub case-10 : (j : ℕ) → j < 5 → (j ≡ 1 → ⊥) → Reads j
  -- "11: value A0 (hex) has 6 on offer, the empty one 0"
  pub case-11 : (offer_answer two_sold ≡ Ok 6) × (offer_answer [] ≡ Ok 0)

-- ---- cases 8 and 9, by computation

after_both : AfterBoth (2 ^ 2 + 2 ^ 4) (Ok (pos 496)) × AfterBoth (2 ^ 2 + 2 ^ 0) (Ok (negsuc 251))
unfolding open_of server_of valid_of lawful_of ends_of starts_above kept_of keeps transfer_of give_of spares lawful added fits fits_replica register_fits is_start register_mark bounded may_hold total_fits
    above_floor above_of above total_of start_of weight_of weight difference given_of received_of join_answer joins joined agree later all table run sum sum_ℤ
    named map_of quorum_answer margin_of margin weight_in total
after_both = (
  record { first-accepted = refl; second-accepted = refl; join-accepted = refl; quorum-is = refl },
  record { first-accepted = refl; second-accepted = refl; join-accepted = refl; quorum-is = refl },
)

-- ---- case 10, by computation

-- what 1 gave, alone and after 0's gift
abbrev alone : ℕ → Ledger
alone j = added fresh_ledger 1 j 748

abbrev after-gift : ℕ → Ledger
after-gift j = added (added fresh_ledger 0 1 374) 1 j 748

record Computed (j : ℕ) : Type 0 where
  pub light-bytes : message_of five (share 1) (sheet-only (alone j)) ≡ light-share j
  pub sound-bytes : message_of five (share 1) (sheet-only (after-gift j)) ≡ sound-share j
  pub light-fault : fault_of five (share 1) (sheet-only (alone j)) ≡ 5
  pub sound-fault : fault_of five (share 1) (sheet-only (after-gift j)) ≡ 0
  pub sound-count : count_of (added fresh_ledger 0 1 374) 1 ≡ 0
  pub sound-cell : cell_of (added fresh_ledger 0 1 374) 1 j ≡ 0

computed : (j : ℕ) → j < 5 → (j ≡ 1 → ⊥) → Computed j
unfolding message_of bytes_of table run encode_fields field_map_of field_map head register register_mark sheet rows row cells cell_map row_mark row_map note number series marks stands bytes
    sum all stamp_bytes added valid_of lawful_of ends_of starts_above kept_of keeps fault_of kind_number_fits register_fits is_start within bounded may_hold total_fits above_floor above_of above total_of start_of weight_of
    weight difference given_of received_of
computed zero l d = record { light-bytes = refl; sound-bytes = refl; light-fault = refl; sound-fault = refl; sound-count = refl; sound-cell = refl }
computed (suc zero) l d = absurd (d refl)
computed (suc (suc zero)) l d =
    record { light-bytes = refl; sound-bytes = refl; light-fault = refl; sound-fault = refl; sound-count = refl; sound-cell = refl }
computed (suc (suc (suc zero))) l d =
    record { light-bytes = refl; sound-bytes = refl; light-fault = refl; sound-fault = refl; sound-count = refl; sound-cell = refl }
computed (suc (suc (suc (suc zero)))) l d =
    record { light-bytes = refl; sound-bytes = refl; light-fault = refl; sound-fault = refl; sound-count = refl; sound-cell = refl }
computed (suc (suc (suc (suc (suc j))))) l d = absurd (omega arith)

gift-typed : TypedLedger (added fresh_ledger 0 1 374)
gift-typed =
    added-typed fresh_ledger 0 1 374 fresh-typed (omega arith) (omega arith) (omega (arith, fresh-count 0)) (omega (arith, fresh-cell 0 1))

reads : (j : ℕ) → j < 5 → (j ≡ 1 → ⊥) → Reads j
reads j l d =
    let k = computed j l d in
    let light-typed =
    added-typed fresh_ledger 1 j 748 fresh-typed (omega arith) (omega arith) (omega (arith, fresh-count 1)) (omega (arith, fresh-cell 1 j)) in
    let sound-typed =
    added-typed (added fresh_ledger 0 1 374) 1 j 748 gift-typed (omega arith) (omega arith) (omega (arith, k.sound-count)) (omega (arith, k.sound-cell)) in
    record {
      light-bytes = k.light-bytes;
      light = subst (λ m. check five m ≡ 5) k.light-bytes (share-number five 1 (alone j) (omega arith) light-typed ∙ k.light-fault);
      sound-bytes = k.sound-bytes;
      sound = subst (λ m. check five m ≡ 0) k.sound-bytes (share-number five 1 (after-gift j) (omega arith) sound-typed ∙ k.sound-fault);
    }

-- ---- all of them

pub cases : Cases
unfolding kept_of keeps table run all by_floor above_of above total_of start_of sum difference offer_answer offered free_in bit
cases = record {
  case-1 = floor-decides 5 1 374 refl (omega arith);
  case-2 = floor-decides 5 1 375 refl (omega arith);
  case-3 = floor-decides 4 1 333 refl (omega arith);
  case-4 = floor-decides 4 1 334 refl (omega arith);
  case-5 = floor-decides 16 7 111 refl (omega arith);
  case-6 = floor-decides 16 7 112 refl (omega arith);
  case-7 = two-fresh.of_four;
  case-8 = after_both.0;
  case-9 = after_both.1;
  case-10 = reads;
  case-11 = (refl, refl);
}

-- ---- the share in hex

-- server 0 of five gives 200 to 2
abbrev pub giver : ServerAnswer
giver = transfer_of (open_of (level 5 1) 0).server 2 200

-- "Share from 0 (n=5 f=1) after giving 200 to 2, in hex: 00 23 03 00 00 01 00 01 00 04 00 00 00 C8", written into 20 bytes from place 3
pub record ShareInHex : Type 0 where
  pub given : giver.verdict ≡ granted
  pub answer : (share_of giver.server (replicate 20 0xAA) 3).answer ≡ Ok 17
  pub buffer : (share_of giver.server (replicate 20 0xAA) 3).out
      ≡ replicate 3 0xAA ++ (0x00 ∷ 0x23 ∷ 0x03 ∷ 0x00 ∷ 0x00 ∷ 0x01 ∷ 0x00 ∷ 0x01 ∷ 0x00 ∷ 0x04 ∷ 0x00 ∷ 0x00 ∷ 0x00 ∷ 0xC8 ∷ []) ++ replicate 3 0xAA

pub share-in-hex : ShareInHex
unfolding open_of server_of valid_of lawful_of ends_of starts_above kept_of keeps transfer_of give_of spares lawful added fits fits_replica register_fits is_start register_mark bounded may_hold total_fits
    above_floor above_of above total_of start_of weight_of weight difference given_of received_of all sum share_of place room over message_of bytes_of table run encode_fields
    field_map_of field_map head register sheet rows row cells cell_map row_mark row_map note number series marks stands bytes
share-in-hex = record { given = refl; answer = refl; buffer = refl }
