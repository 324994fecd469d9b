-- Bad inputs of a server's calls, each with its number (paper 01, "Server" and "Numbers handed out"), the record and the buffer as they were, by
-- computation; and beside those at a limit the last that is taken.
use Rattle.std.specs.Prelude.{Ok, Err}
use Prim.Native.Nat.{ℕ}
use mathlib.Core.Path.{◌≡◌, refl}
use mathlib.Core.List.{List, [], ◌∷◌, ◌++◌}
use lib.ListN.{replicate}
use Rattle.quorums.specs.Sum.{sum, all}
use Rattle.quorums.specs.Difference.{difference}
use Rattle.quorums.specs.Accounts.{weight, above}
use Rattle.config.specs.Cluster.{level, valid_of, server_of, start_of, total_of, above_of, config_of, lawful_of, ends_of, starts_above, kept_of, keeps}
use Rattle.config.specs.Refusals.{refusal}
use Rattle.config.specs.declared.answer.Refusal.{Refusal}
use Rattle.ledger.specs.Ledgers.{fresh_ledger, given_of, received_of}
use Rattle.ledger.specs.Weights.{weight_of}
use Rattle.ledger.specs.Checks.{may_hold, total_fits, bounded, above_floor}
use Rattle.ledger.specs.Changes.{lawful, spares, added}
use Rattle.quorums.specs.Tables.{run, table}
use Rattle.format.specs.Bytes.{bytes, number, series, stands, marks}
use Rattle.format.specs.Table.{register_mark, register, cell_map, cells, row_mark, row, row_map, rows, sheet, field_map, field_map_of, head, note, encode_fields}
use Rattle.message.specs.Envelopes.{message_of}
use Rattle.message.specs.Answers.{fits as room, over, Written, place}
use Rattle.replica.specs.Values.{empty_value, bytes_of}
use Rattle.replica.specs.Registers.{start_register, is_start, register_fits}
use Rattle.replica.specs.Replicas.{fits as fits_replica}
use Rattle.server.specs.declared.record.Server.{Server}
use Rattle.server.specs.Servers.{fits, accepted, refused, fresh_server, blank_server, open_of}
use Rattle.server.specs.Transfers.{give_of, transfer_of}
use Rattle.server.specs.Shares.{share_of}
use Rattle.worked.proofs.Refusals.{most, five, exchange}

-- server 0 of five
abbrev fresh : Server
fresh = fresh_server five 0

-- the same after 0 gave 1 to server 1 a times, and 1 gave 1 to server 0 b times
abbrev exchanged : ℕ → ℕ → Server
exchanged a b = record { config = five; number = 0; replica = record { ledger = exchange a b; register = start_register } }

-- records that break the bounds: server 5 of five; 3 gave 375 and is at the floor; a desk's tag without a stamp

abbrev sixth : Server
sixth = fresh_server five 5

abbrev light : Server
light = record { config = five; number = 0; replica = record { ledger = added fresh_ledger 3 4 375; register = start_register } }

abbrev stampless : Server
stampless =
    record { config = five; number = 0; replica = record { ledger = fresh_ledger; register = record { stamp = 0; desk = 1; value = empty_value } } }

-- nothing is written
abbrev unwritten : Refusal → List ℕ → Written
unwritten k out = record { answer = Err k; out = out }

pub record BadCalls : Type 0 where
  -- open, 1: n = 0, n = 17, 2f = n, number = n, and numbers at their ends
  pub no-server : open_of (level 0 0) 0 ≡ refused (refusal 1) blank_server
  pub seventeen-servers : open_of (level 17 0) 0 ≡ refused (refusal 1) blank_server
  pub half-crash : open_of (level 4 2) 0 ≡ refused (refusal 1) blank_server
  pub number-past-last : open_of (level 5 1) 5 ≡ refused (refusal 1) blank_server
  pub most-servers : open_of (level most 0) 0 ≡ refused (refusal 1) blank_server
  pub most-crashes : open_of (level 5 most) 0 ≡ refused (refusal 1) blank_server
  pub most-number : open_of (level 5 1) most ≡ refused (refusal 1) blank_server
  pub last-server : open_of (level 16 7) 15 ≡ accepted (fresh_server (config_of (level 16 7)) 15)
  -- transfer, 11: to itself, to a server ≥ n, of nothing
  pub to-itself : transfer_of fresh 0 1 ≡ refused (refusal 11) fresh
  pub past-last : transfer_of fresh 5 1 ≡ refused (refusal 11) fresh
  pub most-taker : transfer_of fresh most 1 ≡ refused (refusal 11) fresh
  pub of-nothing : transfer_of fresh 1 0 ≡ refused (refusal 11) fresh
  -- 12: the count is 65,535, though every weight is 1,000
  pub spent : transfer_of (exchanged 65535 65535) 1 1 ≡ refused (refusal 12) (exchanged 65535 65535)
  pub last-count : transfer_of (exchanged 65534 65534) 1 1 ≡ accepted (exchanged 65535 65534)
  -- 10
  pub most-amount : transfer_of fresh 1 most ≡ refused (refusal 10) fresh
  -- 11 before 12, and 12 before 10
  pub taker-first : transfer_of (exchanged 65535 65535) 0 1 ≡ refused (refusal 11) (exchanged 65535 65535)
  pub count-first : transfer_of (exchanged 65535 65535) 1 most ≡ refused (refusal 12) (exchanged 65535 65535)
  -- 1 before all else: the number, a light sheet, and a register out of bounds
  pub number-out : transfer_of sixth 1 1 ≡ refused (refusal 1) sixth
  pub light-sheet : transfer_of light 1 1 ≡ refused (refusal 1) light
  pub bad-register : transfer_of stampless 1 1 ≡ refused (refusal 1) stampless
  pub record-first : transfer_of light 0 0 ≡ refused (refusal 1) light
  -- share, 13: a byte too short, and a place past the end
  pub too_short : share_of fresh (replicate 6 0xAA) 3 ≡ unwritten (refusal 13) (replicate 6 0xAA)
  pub long-enough : share_of fresh (replicate 7 0xAA) 3
      ≡ record { answer = Ok 7; out = replicate 3 0xAA ++ (0x00 ∷ 0x03 ∷ 0x03 ∷ 0x00 ∷ []) }
  pub past_end : share_of fresh (replicate 6 0xAA) 7 ≡ unwritten (refusal 13) (replicate 6 0xAA)
  pub most-place : share_of fresh (replicate 6 0xAA) most ≡ unwritten (refusal 13) (replicate 6 0xAA)
  -- 1 before it
  pub share-light : share_of light (replicate 6 0xAA) 7 ≡ unwritten (refusal 1) (replicate 6 0xAA)

pub bad-calls : BadCalls
unfolding open_of server_of valid_of lawful_of ends_of starts_above kept_of keeps transfer_of give_of spares lawful added fits fits_replica register_fits is_start register_mark bounded may_hold total_fits
    above_floor above_of above total_of start_of weight_of weight difference given_of received_of all sum share_of place room over message_of bytes_of table run encode_fields
    field_map_of field_map head register sheet rows row cells cell_map row_mark row_map note number series marks stands bytes
bad-calls = record {
  no-server = refl;
  seventeen-servers = refl;
  half-crash = refl;
  number-past-last = refl;
  most-servers = refl;
  most-crashes = refl;
  most-number = refl;
  last-server = refl;
  to-itself = refl;
  past-last = refl;
  most-taker = refl;
  of-nothing = refl;
  spent = refl;
  last-count = refl;
  most-amount = refl;
  taker-first = refl;
  count-first = refl;
  number-out = refl;
  light-sheet = refl;
  bad-register = refl;
  record-first = refl;
  too_short = refl;
  long-enough = refl;
  past_end = refl;
  most-place = refl;
  share-light = refl;
}
