-- The marked examples hold. In this order: bodies; the record's answers to the histories; the ledger's; epochs; the table.
use mathlib.Core.Path.{refl}
use Rattle.xdr.specs.Be.{be_nat, be_bytes}
use Rattle.extents.specs.Extents.{list_from, too_far, out_of_order, clash, any_of, refusal, verdict}
use Rattle.layouts.specs.declared.kinds.Kind.TheVariants.{Scsi}
use Rattle.layouts.specs.Layout.{handle_size, body_size, check_body}
use Rattle.xdr.specs.Reader.{same_bytes, number, opaque, boolean, bounded, in_turn}
use Rattle.wire.specs.Reply.{reply_with, reply_in_with}
use Rattle.reports.specs.Report.{device_error, ioerr, layoutreturn, joined, report_of, over}
use Rattle.wire.specs.Stateid.{stateid_kind, stateid_bytes}
use Rattle.wire.specs.Request.{file_return, return_of, arguments, refusal_of, unless, request_of, body_of}
use Rattle.mirroring.specs.Blame.{with_error_of, errors_assessed, assessment_of}
use Rattle.mirroring.specs.Totals.{sum_of, totals_of}
use Rattle.mirroring.specs.TotalsSteps.{mirror_totals}
use Rattle.mirroring.specs.Devices.{devices_in, mirrors_in, is_mirror, place_of, is_copy, copy_place, twice, bad_mirrors}
use Rattle.files.specs.File.{opened_file, reclaimed_file, closed_file, repaired_file, changed_file, raised_file, restarted_file, ended_file, source_of, head_after}
use Rattle.places.specs.Lists.{any, chosen, has, with, none, amend, discard, first_or, fill}
use Rattle.mirroring.specs.Mirrors.{blamed_by, enrolled_of}
use Rattle.mirroring.specs.Direction.{head_or, first_by}
use Rattle.mirroring.specs.Source.{good_from, source_in}
use Rattle.places.specs.Places.{first, pull}
use Rattle.ledger.specs.History.{step, answers}
use Rattle.ledger.specs.Ledger.{registered, row_of, unblamed_from, judge, blame, insert, apply, feed}
use Rattle.recovery.specs.Record.{place_in, open_of, reclaim_of, close_of, enter, raised, room_in, register_of, end_of, restart_of, is_wanted, listing_of}
use Rattle.recovery.specs.LayoutReturn.{reported_of, layoutreturn_of, reply_after}
use Rattle.layoutreturn.specs.LayoutReturn.{decision_of, report_on}
use Rattle.epochs.specs.Epochs.{judged, join_of, start_of, finish_of}
use Rattle.epochs.specs.History.{after}
use Rattle.masks.specs.Mask.{has as node-has, set_of, all, plus, minus, empty}
use mathlib.Core.Path.{◌≡◌}
use mathlib.Core.List.{[], ◌∷◌, ◌++◌, map}
use Prim.Native.Nat.{◌-◌, ◌^◌}
use Rattle.extents.specs.Verdict.{Accepted, Refused}
use Rattle.recovery.specs.Calls.{close, end_grace, said, lend}
use Rattle.marked_examples.specs.Table.{read_write, read, invalid, A, C, started, reclaimed, reports, list, offers, by_record, by_ledger, ledger_from, both_start, epochs_after, epochs_are, seven, empty as none-listed, accepted, MarkedExamples}
use Rattle.marked_examples.specs.Table as table
use Rattle.epochs.specs.History.{finish}

-- ---- bodies
k1-to-k3 : map (check_body Scsi) ((0 ∷ 0 ∷ 0 ∷ 0 ∷ []) ∷ (0 ∷ 0 ∷ 0 ∷ []) ∷ be_bytes 4 1025 ∷ []) ≡ Accepted 0 ∷ Refused 1 0 ∷ Refused 2 0 ∷ []
unfolding be_nat be_bytes list_from too_far out_of_order clash any_of refusal verdict handle_size body_size check_body
k1-to-k3 = refl

k4-to-k9 : map (check_body Scsi) (
    (be_bytes 4 2 ++ read_write 0 10 ++ read_write 10 10)
    ∷ (be_bytes 4 2 ++ read 0 100 ++ invalid 0 10)
    ∷ (be_bytes 4 2 ++ invalid 0 10 ++ read 0 100)
    ∷ (be_bytes 4 3 ++ read 0 100 ++ invalid 0 10 ++ read 50 10)
    ∷ (be_bytes 4 1 ++ table.none (2 ^ 64 - 2) 1)
    ∷ (be_bytes 4 1 ++ table.none (2 ^ 64 - 1) 1)
    ∷ []) ≡ Accepted 2 ∷ Accepted 2 ∷ Refused 6 1 ∷ Refused 7 2 ∷ Accepted 1 ∷ Refused 5 0 ∷ []
unfolding be_nat be_bytes list_from too_far out_of_order clash any_of refusal verdict handle_size body_size check_body
k4-to-k9 = refl

-- ---- histories
record-k10 : by_record (started ++ end_grace ∷ list ∷ []) ≡ said 0 ∷ said 0 ∷ said 0 ∷ said 0 ∷ seven 0 ∷ []
unfolding be_nat be_bytes same_bytes number opaque boolean bounded in_turn reply_with reply_in_with device_error ioerr layoutreturn joined report_of over file_return return_of arguments refusal_of stateid_kind unless request_of body_of with_error_of errors_assessed sum_of totals_of mirror_totals assessment_of devices_in mirrors_in is_mirror place_of is_copy copy_place twice bad_mirrors opened_file reclaimed_file closed_file repaired_file blamed_by node-has plus set_of changed_file report_on decision_of restarted_file ended_file source_of any chosen has with none amend discard first_or fill source_in enrolled_of first pull step answers registered row_of unblamed_from first_by head_or good_from lend judge blame insert apply feed place_in open_of reclaim_of close_of enter raised room_in register_of end_of restart_of is_wanted listing_of reported_of layoutreturn_of reply_after
record-k10 = refl

ledger-k10 : by_ledger (started ++ end_grace ∷ list ∷ []) ≡ said 0 ∷ said 0 ∷ said 0 ∷ said 0 ∷ seven 0 ∷ []
unfolding be_nat be_bytes same_bytes number opaque boolean bounded in_turn reply_with reply_in_with device_error ioerr layoutreturn joined report_of over file_return return_of arguments refusal_of stateid_kind unless request_of body_of with_error_of errors_assessed sum_of totals_of mirror_totals assessment_of devices_in mirrors_in is_mirror place_of is_copy copy_place twice bad_mirrors opened_file reclaimed_file closed_file repaired_file blamed_by node-has plus set_of changed_file report_on decision_of restarted_file ended_file source_of any chosen has with none amend discard first_or fill source_in enrolled_of first pull step answers registered row_of unblamed_from first_by head_or good_from lend judge blame insert apply feed place_in open_of reclaim_of close_of enter raised room_in register_of end_of restart_of is_wanted listing_of reported_of layoutreturn_of reply_after ledger_from
ledger-k10 = refl

record-k11 : by_record (reclaimed ++ end_grace ∷ list ∷ []) ≡ said 0 ∷ said 0 ∷ said 0 ∷ said 0 ∷ said 0 ∷ none-listed ∷ []
unfolding be_nat be_bytes same_bytes number opaque boolean bounded in_turn reply_with reply_in_with device_error ioerr layoutreturn joined report_of over file_return return_of arguments refusal_of stateid_kind unless request_of body_of with_error_of errors_assessed sum_of totals_of mirror_totals assessment_of devices_in mirrors_in is_mirror place_of is_copy copy_place twice bad_mirrors opened_file reclaimed_file closed_file repaired_file blamed_by node-has plus set_of changed_file report_on decision_of restarted_file ended_file source_of any chosen has with none amend discard first_or fill source_in enrolled_of first pull step answers registered row_of unblamed_from first_by head_or good_from lend judge blame insert apply feed place_in open_of reclaim_of close_of enter raised room_in register_of end_of restart_of is_wanted listing_of reported_of layoutreturn_of reply_after
record-k11 = refl

ledger-k11 : by_ledger (reclaimed ++ end_grace ∷ list ∷ []) ≡ said 0 ∷ said 0 ∷ said 0 ∷ said 0 ∷ said 0 ∷ none-listed ∷ []
unfolding be_nat be_bytes same_bytes number opaque boolean bounded in_turn reply_with reply_in_with device_error ioerr layoutreturn joined report_of over file_return return_of arguments refusal_of stateid_kind unless request_of body_of with_error_of errors_assessed sum_of totals_of mirror_totals assessment_of devices_in mirrors_in is_mirror place_of is_copy copy_place twice bad_mirrors opened_file reclaimed_file closed_file repaired_file blamed_by node-has plus set_of changed_file report_on decision_of restarted_file ended_file source_of any chosen has with none amend discard first_or fill source_in enrolled_of first pull step answers registered row_of unblamed_from first_by head_or good_from lend judge blame insert apply feed place_in open_of reclaim_of close_of enter raised room_in register_of end_of restart_of is_wanted listing_of reported_of layoutreturn_of reply_after ledger_from
ledger-k11 = refl

record-k12 : by_record (reclaimed ++ reports A ∷ end_grace ∷ list ∷ offers ∷ close 7 1 ∷ offers ∷ []) ≡ said 0 ∷ said 0 ∷ said 0 ∷ said 0 ∷ accepted ∷ said 0 ∷ seven 1 ∷ none-listed ∷ said 0 ∷ seven 1 ∷ []
unfolding be_nat be_bytes same_bytes number opaque boolean bounded in_turn reply_with reply_in_with device_error ioerr layoutreturn joined report_of over file_return return_of arguments refusal_of stateid_kind stateid_bytes unless request_of body_of with_error_of errors_assessed sum_of totals_of mirror_totals assessment_of devices_in mirrors_in is_mirror place_of is_copy copy_place twice bad_mirrors opened_file reclaimed_file closed_file repaired_file blamed_by node-has plus set_of changed_file raised_file head_after report_on decision_of restarted_file ended_file source_of any chosen has with none amend discard first_or fill source_in enrolled_of first pull step answers registered row_of unblamed_from first_by head_or good_from lend judge blame insert apply feed place_in open_of reclaim_of close_of enter raised room_in register_of end_of restart_of is_wanted listing_of reported_of layoutreturn_of reply_after
record-k12 = refl

ledger-k12 : by_ledger (reclaimed ++ reports A ∷ end_grace ∷ list ∷ offers ∷ close 7 1 ∷ offers ∷ []) ≡ said 0 ∷ said 0 ∷ said 0 ∷ said 0 ∷ accepted ∷ said 0 ∷ seven 1 ∷ none-listed ∷ said 0 ∷ seven 1 ∷ []
unfolding be_nat be_bytes same_bytes number opaque boolean bounded in_turn reply_with reply_in_with device_error ioerr layoutreturn joined report_of over file_return return_of arguments refusal_of stateid_kind unless request_of body_of with_error_of errors_assessed sum_of totals_of mirror_totals assessment_of devices_in mirrors_in is_mirror place_of is_copy copy_place twice bad_mirrors opened_file reclaimed_file closed_file repaired_file blamed_by node-has plus set_of changed_file report_on decision_of restarted_file ended_file source_of any chosen has with none amend discard first_or fill source_in enrolled_of first pull step answers registered row_of unblamed_from first_by head_or good_from lend judge blame insert apply feed place_in open_of reclaim_of close_of enter raised room_in register_of end_of restart_of is_wanted listing_of reported_of layoutreturn_of reply_after ledger_from
ledger-k12 = refl

record-k13 : by_record (reclaimed ++ reports C ∷ end_grace ∷ list ∷ []) ≡ said 0 ∷ said 0 ∷ said 0 ∷ said 0 ∷ accepted ∷ said 0 ∷ seven 0 ∷ []
unfolding be_nat be_bytes same_bytes number opaque boolean bounded in_turn reply_with reply_in_with device_error ioerr layoutreturn joined report_of over file_return return_of arguments refusal_of stateid_kind stateid_bytes unless request_of body_of with_error_of errors_assessed sum_of totals_of mirror_totals assessment_of devices_in mirrors_in is_mirror place_of is_copy copy_place twice bad_mirrors opened_file reclaimed_file closed_file repaired_file blamed_by node-has plus set_of changed_file raised_file head_after report_on decision_of restarted_file ended_file source_of any chosen has with none amend discard first_or fill source_in enrolled_of first pull step answers registered row_of unblamed_from first_by head_or good_from lend judge blame insert apply feed place_in open_of reclaim_of close_of enter raised room_in register_of end_of restart_of is_wanted listing_of reported_of layoutreturn_of reply_after
record-k13 = refl

ledger-k13 : by_ledger (reclaimed ++ reports C ∷ end_grace ∷ list ∷ []) ≡ said 0 ∷ said 0 ∷ said 0 ∷ said 0 ∷ accepted ∷ said 0 ∷ seven 0 ∷ []
unfolding be_nat be_bytes same_bytes number opaque boolean bounded in_turn reply_with reply_in_with device_error ioerr layoutreturn joined report_of over file_return return_of arguments refusal_of stateid_kind unless request_of body_of with_error_of errors_assessed sum_of totals_of mirror_totals assessment_of devices_in mirrors_in is_mirror place_of is_copy copy_place twice bad_mirrors opened_file reclaimed_file closed_file repaired_file blamed_by node-has plus set_of changed_file report_on decision_of restarted_file ended_file source_of any chosen has with none amend discard first_or fill source_in enrolled_of first pull step answers registered row_of unblamed_from first_by head_or good_from lend judge blame insert apply feed place_in open_of reclaim_of close_of enter raised room_in register_of end_of restart_of is_wanted listing_of reported_of layoutreturn_of reply_after ledger_from
ledger-k13 = refl

-- ---- epochs
k14 : epochs_after both_start ≡ epochs_are 2 1
unfolding judged join_of start_of finish_of after node-has set_of all plus minus empty
k14 = refl

k15-first : epochs_after (both_start ++ finish 0 ∷ []) ≡ epochs_are 2 1
unfolding judged join_of start_of finish_of after node-has set_of all plus minus empty
k15-first = refl

k15-then : epochs_after (both_start ++ finish 0 ∷ finish 1 ∷ []) ≡ epochs_are 2 0
unfolding judged join_of start_of finish_of after node-has set_of all plus minus empty
k15-then = refl

-- ---- the table
pub marked-examples : MarkedExamples
unfolding table.table
marked-examples = cc (k1-to-k3, k4-to-k9, record-k10, ledger-k10, record-k11, ledger-k11, record-k12, ledger-k12, record-k13, ledger-k13, k14, k15-first, k15-then)
