-- `mrd_index_fields::end_same` meets its contract: the length first; then the count stands right after its tag.
-- Assumes nothing.
use Prim.Native.Nat.{◌+◌}
use native.Mathlib.Omega.{arith}
use mathlib.Core.Path.{refl, sym, ◌∙◌}
use Rattle.mrd_logic.specs.ListLaws.{begins-next, rest-other, rest-long}
use Rattle.mrd_numbers.specs.Little.{to_bytes}
use Rattle.mrd_tagged.specs.Tagged.{heading}
use Rattle.mrd_stream.specs.Index.{end_field}
use Rattle.mrd_index_fields.proofs.same.end_same.Goals as goal

pub returns-then-file-at : goal.returns-then-file-at
returns-then-file-at c =
    let a = c.args in
    sym (rest-other a.file.now (end_field a.count) a.at (omega arith) (λ e. omega (arith, c.if-file-at.true, e)))

pub returns : goal.returns
returns c =
    let a = c.args in
    rw (c.tag_same.ensures, c.same_at.ensures)
    (sym (rest-long a.file.now (end_field a.count) a.at (omega arith) (omega (arith, c.if-file-at.false)) ∙
    begins-next a.file.now (heading 4 4) (to_bytes 4 a.count) a.at (a.at + 3) refl))
