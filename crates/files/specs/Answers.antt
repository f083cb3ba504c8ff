-- MODEL. What the code answers, which has no number for 0, as the records that the definitions of one file answer (specs/File.antt): what stands beside the
-- files and the file are as they were where a call is refused.
use Rattle.std.specs.Prelude.{Option, Some, None, Result, Ok, Err}
use Rattle.statuses.specs.Numbers.{number}
use Rattle.statuses.specs.declared.Status.{Status}
use Rattle.files.specs.File.{FileAnswered, file_answered, Opening, opened_by, Closing, closed_by}
use Rattle.files.specs.declared.file.Closed.{Closed}
use Rattle.files.specs.declared.file.File.{File}
use Rattle.files.specs.declared.file.FileAfter.{FileAfter}
use Rattle.files.specs.declared.file.Opened.{Opened}
use Rattle.files.specs.declared.head.Head.{Head}

abbrev pub answered_as : Head → File → Result FileAfter Status → FileAnswered
answered_as h f (Ok a) = file_answered 0 a.head a.file
answered_as h f (Err s) = file_answered (number s) h f

-- an open: an intent that begins, none, or a refusal
abbrev pub begins : Opened → Opening
begins s = record { status = 0; head = s.head; at = s.at; client = s.client }

abbrev pub opening_as : Head → File → Result (Option Opened) Status → FileAnswered
opening_as h f (Ok (Some s)) = opened_by (begins s) f
opening_as h f (Ok None) = file_answered 0 h f
opening_as h f (Err s) = file_answered (number s) h f

-- a close: an intent that ends, or a refusal
abbrev pub ends : Closed → Closing
ends s = record { status = 0; head = s.head; at = s.at }

abbrev pub closing_as : Head → File → Result Closed Status → FileAnswered
closing_as h f (Ok s) = closed_by (ends s) f
closing_as h f (Err s) = file_answered (number s) h f
