-- The lines that give no send by hand: a send is begun and ended in a round alone.
use Rattle.std.specs.Prelude.{Bool, true, not}
use Rattle.collect_text.specs.declared.line.Line.{Line}
use Rattle.collect_text.specs.declared.line.Line.TheVariants.{Give}
use Rattle.send_workers.specs.Agreement.{is_send_command}

abbrev pub is_plain : Line → Bool
is_plain (Give command) = not (is_send_command command)
is_plain line = true
