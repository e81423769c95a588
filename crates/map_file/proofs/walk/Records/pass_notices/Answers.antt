use Rattle.std.proofs.Common.{◌≡◌, Err, sym, ◌∙◌, rules}
use Rattle.map_format.proofs.Runs.{notices_more, notices_stop}
use Rattle.map_file.proofs.walk.Records.pass_notices.Goals as goal

pub loop-self-preserved : goal.loop-self-preserved
loop-self-preserved c =
    let inv = c.loop-self.invariant in
    let more = rw inv.same at c.loop-self-test.true in
    let one = rw inv.same at c.in_ok-pass.ensures.end in
    record { same = c.pass.ensures.same ∙ inv.same; decides = sym (notices_more _ _ _ more _ one) ∙ inv.decides }

pub returns-in_err-pass : goal.returns-in_err-pass
returns-in_err-pass c =
    let inv = c.loop-self.invariant in
    let fault = c.in_err-pass.field-0.0 in
    let is : c.from_residual.result ≡ Err fault = search rules in
    let more = rw inv.same at c.loop-self-test.true in
    let one = rw inv.same at c.in_err-pass.ensures.end in
    rw is (sym (notices_stop _ _ _ more fault one) ∙ inv.decides)
