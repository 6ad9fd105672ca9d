-- Why a run stopped: its status, and the line that says so.
use Rattle.std.specs.Prelude.{ℕ, List, ◌++◌, codes, Result, Ok, Err}
use Rattle.std.specs.Fmt.{decimal}
use Rattle.device_journal.specs.declared.fault.OpenFault.{OpenFault}
use Rattle.device_journal.specs.declared.fault.OpenFault.TheVariants as opening
use Rattle.collect_script.specs.declared.stop.ScriptStop.{ScriptStop}
use Rattle.collect_script.specs.declared.stop.ScriptStop.TheVariants as script
use Rattle.collect_script.specs.Ends.{ScriptEnd}
use Rattle.collect_top.specs.declared.stop.Stop.{Stop}
use Rattle.collect_top.specs.declared.stop.Stop.TheVariants.{Usage, Opening, Script}

-- how a call ended: whole, or stopped
abbrev pub End : Type 0
End = Result (Unit {0}) Stop

-- the end of a call that has opened the device, by that of its work
abbrev pub end_of_script : ScriptEnd → End
end_of_script (Ok done) = Ok done
end_of_script (Err stop) = Err (Script stop)

abbrev pub opening_status : OpenFault → ℕ
opening_status opening.DiskFault = 5
opening_status (opening.BadJournal at) = 6
opening_status (opening.BadEntry position) = 6
opening_status (opening.IllegalEntry position) = 6
opening_status opening.NoMemory = 7
opening_status (opening.Full length) = 9

abbrev pub script_status : ScriptStop → ℕ
script_status script.ReadFault = 3
script_status script.WriteFault = 4
script_status script.DiskFault = 5
script_status script.NoMemory = 7
script_status script.LineTooLong = 8
script_status (script.JournalFull length) = 9
script_status script.ScriptTooLong = 10

abbrev pub status_of : Stop → ℕ
status_of Usage = 2
status_of (Opening fault) = opening_status fault
status_of (Script stop) = script_status stop

abbrev pub end_status : End → ℕ
end_status (Ok done) = 0
end_status (Err stop) = status_of stop

-- what the line has behind the status
abbrev pub place_text : Stop → List ℕ
place_text (Opening (opening.BadJournal at)) = codes " at " ++ decimal at
place_text (Opening (opening.BadEntry position)) = codes " entry " ++ decimal position
place_text (Opening (opening.IllegalEntry position)) = codes " entry " ++ decimal position
place_text (Opening (opening.Full length)) = codes " length " ++ decimal length
place_text (Script (script.JournalFull length)) = codes " length " ++ decimal length
place_text _ = codes ""

abbrev pub status_text : Stop → List ℕ
status_text stop = codes "fault " ++ decimal (status_of stop)

abbrev pub fault_line : Stop → List ℕ
fault_line stop = status_text stop ++ place_text stop ++ codes "\n"
