-- What is found in each of some well-formed messages, by its kind and bytes; so their kinds, and in the crates above their records and normal forms.
-- Nothing here speaks of the walk.
-- Assumes nothing.
use Rattle.std.specs.Prelude.{ℕ, suc, ◌≡◌, refl, List, [], ◌∷◌, ◌++◌, length}
use Rattle.std.proofs.Common.{sym, ap, ◌∙◌, subst}
use Rattle.mrd_format.specs.declared.kind.Kind.{Kind}
use Rattle.mrd_format.specs.declared.rules.Rules.{Rules}
use Rattle.mrd_format.specs.WellFormed.{WellFormed}
use Rattle.mrd_logic.specs.Every.{Every, every_split}
use Rattle.mrd_cut.specs.Cut.{kinds_in}

-- what f finds in each of some well-formed messages, by its kind and bytes
abbrev pub each_in : (rules : Rules) {A : Type 0} → (Kind → List ℕ → A) → (ms : List (List ℕ)) → Every (WellFormed rules) ms → List A
each_in rules f [] w = []
each_in rules f (m ∷ ms) w = f w.0.kind m ∷ each_in rules f ms w.1

-- a message is of one kind, however it is shown to be well formed
pub kind_unique : {rules : Rules} {m : List ℕ} (w v : WellFormed rules m) → w.kind ≡ v.kind
kind_unique w v = cc (w.known, v.known)

module _ (rules : Rules) {A : Type 0} (f : Kind → List ℕ → A) where
  each-unique : (ms : List (List ℕ)) (w v : Every (WellFormed rules) ms) → each_in rules f ms w ≡ each_in rules f ms v
  each-unique [] w v = refl
  each-unique (m ∷ ms) w v = rw (kind_unique w.0 v.0, each-unique ms w.1 v.1)

  -- so the same is found in the same messages
  pub each_same : {ms ns : List (List ℕ)} (w : Every (WellFormed rules) ms) (v : Every (WellFormed rules) ns) → ms ≡ ns → each_in rules f ms w ≡ each_in rules f ns v
  each_same {ms} w v e = subst (λ (ls : List (List ℕ)). (u : Every (WellFormed rules) ls) → each_in rules f ms w ≡ each_in rules f ls u) e (each-unique ms w) v

  -- in as many places as there are messages
  pub each-count : (ms : List (List ℕ)) (w : Every (WellFormed rules) ms) → length (each_in rules f ms w) ≡ length ms
  each-count [] w = refl
  each-count (m ∷ ms) w = ap suc (each-count ms w.1)

  -- in messages after others it is found after what is found in those
  pub each_append : (ms ns : List (List ℕ)) (u : Every (WellFormed rules) (ms ++ ns)) (w : Every (WellFormed rules) ms) (v : Every (WellFormed rules) ns) →
      each_in rules f (ms ++ ns) u ≡ each_in rules f ms w ++ each_in rules f ns v
  each_append [] ns u w v = each-unique ns u v
  each_append (m ∷ ms) ns u w v = rw (kind_unique u.0 w.0, each_append ms ns u.1 w.1 v)

  -- of the first of some messages it is found first
  pub each_first : {ms : List (List ℕ)} (ks js : List (List ℕ)) → ks ++ js ≡ ms → (w : Every (WellFormed rules) ms) (v : Every (WellFormed rules) ks) →
      (others : List A) × (each_in rules f ms w ≡ each_in rules f ks v ++ others)
  each_first {ms} ks js e w v =
      let u = subst (Every (WellFormed rules)) (sym e) w in
      let rest = (every_split (WellFormed rules) ks js u).1 in
      (each_in rules f js rest, each_same w u (sym e) ∙ each_append ks js u v rest)

-- the kinds of messages are such
module _ (rules : Rules) where
  kinds-each : (ms : List (List ℕ)) (w : Every (WellFormed rules) ms) → kinds_in rules ms w ≡ each_in rules (λ k m. k) ms w
  kinds-each [] w = refl
  kinds-each (m ∷ ms) w = ap (λ (ks : List Kind). w.0.kind ∷ ks) (kinds-each ms w.1)

  pub kinds-same : {ms ns : List (List ℕ)} → ms ≡ ns → (w : Every (WellFormed rules) ms) (v : Every (WellFormed rules) ns) → kinds_in rules ms w ≡ kinds_in rules ns v
  kinds-same {ms} {ns} e w v = kinds-each ms w ∙ each_same rules (λ k m. k) w v e ∙ sym (kinds-each ns v)

  pub kinds-append : (ms ns : List (List ℕ)) (u : Every (WellFormed rules) (ms ++ ns)) (w : Every (WellFormed rules) ms) (v : Every (WellFormed rules) ns) →
      kinds_in rules (ms ++ ns) u ≡ kinds_in rules ms w ++ kinds_in rules ns v
  kinds-append ms ns u w v = kinds-each (ms ++ ns) u ∙ each_append rules (λ k m. k) ms ns u w v ∙ rw (kinds-each ms w, kinds-each ns v)

  pub kinds-first : {ms : List (List ℕ)} (ks js : List (List ℕ)) → ks ++ js ≡ ms → (w : Every (WellFormed rules) ms) (v : Every (WellFormed rules) ks) →
      (others : List Kind) × (kinds_in rules ms w ≡ kinds_in rules ks v ++ others)
  kinds-first {ms} ks js e w v =
      let r = each_first rules (λ k m. k) ks js e w v in
      (r.0, kinds-each ms w ∙ r.1 ∙ ap (λ (l : List Kind). l ++ r.0) (sym (kinds-each ks v)))
