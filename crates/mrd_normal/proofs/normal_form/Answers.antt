-- `mrd_normal::normal_form` meets its contract: a refused stream, and an output too short for it, leave the output as it is; else the messages are put.
-- Assumes nothing.
use mathlib.Core.Path.{sym, ◌∙◌}
use lib.ListN.{length}
use Rattle.mrd_stream.specs.Normal.{normal}
use Rattle.mrd_stream.specs.Refused.{told-stream}
use Rattle.mrd_stream.specs.Output.{stream-refused, output-short}
use Rattle.mrd_normal.specs.NormalOutputLaws.{all-written}
use Rattle.mrd_normal.proofs.normal_form.Goals as goal

pub returns-in_err-check : goal.returns-in_err-check
returns-in_err-check c =
    let a = c.args in
    let s = a.s.now in
    let done = stream-refused a.rules s (length s) (normal a.rules s) a.out.now (sym c.in_err-check.ensures) in
    record { result_value = told-stream _ _ _ c.from_residual.ensures.1 ∙ done.0; out_after = done.1 }

pub returns-then-short : goal.returns-then-short
returns-then-short c =
    let a = c.args in
    let s = a.s.now in
    let done = output-short a.rules s (length s) (normal a.rules s) a.out.now (sym c.in_ok-check.ensures) c.if-short.true in
    record { result_value = done.0; out_after = done.1 }

pub put_messages-requires : goal.put_messages-requires
put_messages-requires c = record { count = c.in_ok-check.field-0; passed = sym c.in_ok-check.ensures; fits = c.if-short.false }

pub returns : goal.returns
returns c =
    let a = c.args in
    let done = all-written a.rules a.s.now a.out.now (sym c.in_ok-check.ensures) c.if-short.false c.put_messages.ensures in
    record { result_value = done.0; out_after = done.1 }
