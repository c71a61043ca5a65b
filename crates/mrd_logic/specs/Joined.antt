-- Lists, one after the other.
-- Assumes nothing.
use Rattle.std.specs.Prelude.{◌≡◌, refl, List, [], ◌∷◌, ◌++◌}
use Rattle.std.proofs.Common.{ap, sym, ◌∙◌, append_assoc}

abbrev pub joined : {A : Type 0} → List (List A) → List A
joined [] = []
joined (m ∷ ms) = m ++ joined ms

pub joined-append : {A : Type 0} (ms ns : List (List A)) → joined (ms ++ ns) ≡ joined ms ++ joined ns
joined-append [] ns = refl
joined-append (m ∷ ms) ns = ap (λ (l : List _). m ++ l) (joined-append ms ns) ∙ sym (append_assoc m (joined ms) (joined ns))
