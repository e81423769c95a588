use Rattle.std.proofs.Common.{◌≡◌, Err, sym, ◌∙◌, rules}
use Rattle.map_format.proofs.Runs.{run_more, run_stop}
use Rattle.map_file.proofs.walk.Records.pass_run.Goals as goal

pub returns-in_err-pass-clause-end : goal.returns-in_err-pass-clause-end
returns-in_err-pass-clause-end c =
    let inv = c.loop.invariant in
    let fault = c.in_err-pass.field-0.0 in
    let is : c.from_residual.result ≡ Err fault = search rules in
    let one = rw inv.same at c.in_err-pass.ensures.end in
    rw is (sym (run_stop _ _ _ _ _ _ c.loop-test.true fault one) ∙ inv.decides)

pub loop-preserved : goal.loop-preserved
loop-preserved c =
    let inv = c.loop.invariant in
    let one = rw inv.same at c.in_ok-pass.ensures.end in
    record { same = c.pass.ensures.same ∙ inv.same; decides = sym (run_more _ _ _ _ _ _ c.loop-test.true _ one) ∙ inv.decides }
