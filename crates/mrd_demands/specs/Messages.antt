-- Well-formed messages together: their records, their normal forms, and what these have in common with the messages.
-- Assumes nothing.
use Rattle.std.specs.Prelude.{ℕ, ◌≡◌, refl, List, [], ◌∷◌, map, length}
use Rattle.std.proofs.Common.{ap, ap₂, length-append}
use Rattle.mrd_numbers.specs.Little.{Bytes}
use Rattle.mrd_numbers.specs.ByteLaws.{bytes-split}
use Rattle.mrd_format.specs.declared.kind.Kind.{Kind}
use Rattle.mrd_format.specs.declared.rules.Rules.{Rules}
use Rattle.mrd_logic.specs.Every.{Every}
use Rattle.mrd_format.specs.WellFormed.{WellFormed}
use Rattle.mrd_format.specs.Content.{Record, record_of, normal_of, bytes_of}
use Rattle.mrd_format.proofs.Rewritten.{record_writes}
use Rattle.mrd_format.proofs.NormalLaws.{well-normalised, normal-well}
use Rattle.mrd_logic.specs.Joined.{joined}
use Rattle.mrd_cut.specs.Cut.{kinds_in}
use Rattle.mrd_cut.specs.Each.{each_in, each-count}

-- the records of well-formed messages
abbrev pub records_in : (rules : Rules) (ms : List (List ℕ)) → Every (WellFormed rules) ms → List Record
records_in rules ms w = each_in rules record_of ms w

-- the normal forms of well-formed messages
abbrev pub normals_in : (rules : Rules) (ms : List (List ℕ)) → Every (WellFormed rules) ms → List (List ℕ)
normals_in rules ms w = each_in rules normal_of ms w

-- the normal forms of well-formed messages are well formed
abbrev pub normals_well : (rules : Rules) (ms : List (List ℕ)) (w : Every (WellFormed rules) ms) → Every (WellFormed rules) (normals_in rules ms w)
normals_well rules [] w = tt
normals_well rules (m ∷ ms) w = (normal-well m w.0, normals_well rules ms w.1)

-- they are as many and as long, and of the same kinds
pub normals_count : (rules : Rules) (ms : List (List ℕ)) (w : Every (WellFormed rules) ms) → length (normals_in rules ms w) ≡ length ms
normals_count rules = each-count rules normal_of

pub normals_long : (rules : Rules) (ms : List (List ℕ)) (w : Every (WellFormed rules) ms) → length (joined (normals_in rules ms w)) ≡ length (joined ms)
normals_long rules [] w = refl
normals_long rules (m ∷ ms) w = simp (length-append, (well-normalised m w.0).long, normals_long rules ms w.1)

pub normals_kinds : (rules : Rules) (ms : List (List ℕ)) (w : Every (WellFormed rules) ms) → kinds_in rules (normals_in rules ms w) (normals_well rules ms w) ≡ kinds_in rules ms w
normals_kinds rules [] w = refl
normals_kinds rules (m ∷ ms) w = ap (λ (ks : List Kind). w.0.kind ∷ ks) (normals_kinds rules ms w.1)

-- what is found in each message's normal form as in the message is found in all of them
normals_each : {rules : Rules} {A : Type 0}
    (f : Kind → List ℕ → A) →
    ((m : List ℕ) (w : WellFormed rules m) → f w.kind (normal_of w.kind m) ≡ f w.kind m) →
    (ms : List (List ℕ)) (w : Every (WellFormed rules) ms) → each_in rules f (normals_in rules ms w) (normals_well rules ms w) ≡ each_in rules f ms w
normals_each f e [] w = refl
normals_each f e (m ∷ ms) w = rw (e m w.0, normals_each f e ms w.1)

-- they are the same records, and their own normal forms
pub normals_records : (rules : Rules) (ms : List (List ℕ)) (w : Every (WellFormed rules) ms) → records_in rules (normals_in rules ms w) (normals_well rules ms w) ≡ records_in rules ms w
normals_records rules = normals_each record_of (λ m w. (well-normalised m w).same)

pub normals_own : (rules : Rules) (ms : List (List ℕ)) (w : Every (WellFormed rules) ms) → normals_in rules (normals_in rules ms w) (normals_well rules ms w) ≡ normals_in rules ms w
normals_own rules = normals_each normal_of (λ m w. (well-normalised m w).own)

-- what the records of messages of bytes write are their normal forms
pub records_write : (rules : Rules) (ms : List (List ℕ)) (w : Every (WellFormed rules) ms) → Bytes (joined ms) → map bytes_of (records_in rules ms w) ≡ normals_in rules ms w
records_write rules [] w b = refl
records_write rules (m ∷ ms) w b =
    let s = bytes-split m (joined ms) b in
    ap₂ (λ (l : List ℕ) (ls : List (List ℕ)). l ∷ ls) (record_writes m s.0 w.0) (records_write rules ms w.1 s.1)
