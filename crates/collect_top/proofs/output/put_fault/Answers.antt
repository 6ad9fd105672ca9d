use Rattle.std.proofs.Common.{◌++◌, codes, Err}
use Rattle.std.proofs.lemmas.Result.{err_from_is_err_and}
use Rattle.collect_top.specs.Stop.{status_text, place_text}
use Rattle.line_io.proofs.Gains.{puts_then, gained_then, cut_longer}
use Rattle.collect_top.proofs.output.put_fault.Goals as goal

pub returns-in_err-put_status-clause-puts : goal.returns-in_err-put_status-clause-puts
returns-in_err-put_status-clause-puts g c =
    let p = err_from_is_err_and c.from_residual.result c.from_residual.ensures.1 in
    rw p.1 (cut_longer _ _ (status_text c.args.stop ++ place_text c.args.stop) (codes "\n")
    (cut_longer _ _ (status_text c.args.stop) (place_text c.args.stop) c.in_err-put_status.ensures.puts))

pub returns-in_err-put_place-clause-puts : goal.returns-in_err-put_place-clause-puts
returns-in_err-put_place-clause-puts g c =
    let p = err_from_is_err_and c.from_residual-in_err-put_place.result c.from_residual-in_err-put_place.ensures.1 in
    rw p.1 (cut_longer _ _ (status_text c.args.stop ++ place_text c.args.stop) (codes "\n")
    (puts_then {T = Unit {0}} _ _ _ (Err p.0) (status_text c.args.stop) (place_text c.args.stop) c.in_ok-put_status.ensures.puts c.in_err-put_place.ensures.puts))

pub returns-clause-puts : goal.returns-clause-puts
returns-clause-puts g c =
    puts_then _ _ _ c.put_all.result (status_text c.args.stop ++ place_text c.args.stop) (codes "\n")
    (gained_then _ _ _ (status_text c.args.stop) (place_text c.args.stop) c.in_ok-put_status.ensures.puts c.in_ok-put_place.ensures.puts)
    c.put_all.ensures.puts
