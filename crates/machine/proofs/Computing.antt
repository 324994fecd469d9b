-- What a run of the plain machine computes through.
use Rattle.quorums.specs.Sum.{sum, sum_ℤ, sum_in, size, all}
use Rattle.quorums.specs.Tables.{run, table}
use Rattle.quorums.specs.Difference.{difference}
use Rattle.quorums.specs.Accounts.{weight, total, weight_in, margin, quorum, above}
use Rattle.config.specs.Cluster.{start_of, total_of, above_of, keeps, kept_of, stamp_bytes, most_stamp}
use Rattle.format.specs.Bytes.{bytes, number, series, stands, marks, bit}
use Rattle.format.specs.Table.{register_mark, register, cell_map, cells, row_mark, row, row_map, rows, sheet, field_map, field_map_of, head, note, encode_fields}
use Rattle.machine.specs.Sets.{same, has, includes, missing, union, tally, count, cell, given, received, weight_of, quorum_of}
use Rattle.machine.specs.Parties.{below, higher, join, bytes_of, answered}
use Rattle.machine.specs.Runs.{on_server, on_desk, on_crash, take, at, answer_at, in_turn}
use Rattle.machine.specs.Calls.{send, transfer_by, share_by, serve_by, answer_request, begin_by, ask_by, hear_by, restart, choose, mark, result_by, drop_by}
use Rattle.machine.specs.Margins.{margin_of, margin_by}
use Rattle.machine.specs.Seen.{hears, heard}
use Rattle.machine.specs.Views.{restarts_made, gain}

-- all that a run computes through
unfoldable pub computing : Unit {0}
unfolding in_turn answer_at at take on_server on_desk on_crash send transfer_by share_by serve_by answer_request begin_by ask_by hear_by restart choose mark
    result_by drop_by margin_by join higher below union missing includes has same tally count cell given received weight_of margin_of quorum_of answered
    bytes_of quorum margin weight_in weight total start_of total_of above_of above kept_of keeps table run stamp_bytes most_stamp sum_ℤ sum sum_in size
    all difference encode_fields bytes number series stands marks bit register_mark register cell_map cells row_mark row row_map rows sheet field_map
    field_map_of head note hears heard restarts_made gain
computing = tt
