-- No longer front of a stream could have been kept; and what is saved of a recording that is torn at a byte.
-- Assumes nothing.
use Rattle.std.specs.Prelude.{ℕ, zero, suc, ◌+◌, ◌-◌, ◌≤◌, ◌<◌, ◌≡◌, refl, Bool, true, false, length, take, drop}
use Rattle.std.proofs.Math.Decide.{dec_le}
use Rattle.std.proofs.Math.Nat.{sub-zero}
use Rattle.std.proofs.Common.{arith, sym, ◌∙◌, subst, length-append, length-drop, take-append-drop}
use Rattle.std.proofs.Math.Path.{ap}
use mathlib.Core.List.{List, [], ◌∷◌, ◌++◌, append-nil, append_assoc, append_cancel_left}
use Rattle.std.proofs.lemmas.List.{take-append-le}
use Rattle.mrd_logic.specs.Answer.{accepted}
use Rattle.mrd_logic.specs.Every.{Every, every_split}
use Rattle.mrd_logic.specs.Joined.{joined, joined-append}
use Rattle.mrd_format.specs.declared.kind.Kind.{Kind}
use Rattle.mrd_format.specs.declared.rules.Rules.{Rules}
use Rattle.mrd_format.specs.WellFormed.{WellFormed}
use Rattle.mrd_format.specs.MessageLaws.{prefix_free}
use Rattle.mrd_cursor.specs.Cursors.{max_messages, beginning}
use Rattle.mrd_stream.specs.Walk.{walk, trace, answer}
use Rattle.mrd_cut.specs.Cut.{kinds_in, close, Lacks, InOrder, EndsInClose}
use Rattle.mrd_cut.specs.Each.{kinds-same, kinds-append, kinds-first}
use Rattle.mrd_cut.proofs.OrderRuleLaws.{in_order_iff}
use Rattle.mrd_cut.specs.Walked.{pieces_of}
use Rattle.mrd_cut.proofs.WalkedLaws.{met}
use Rattle.mrd_cut.specs.Accepted.{Acceptable, kinds_of}
use Rattle.mrd_cut.proofs.AcceptedLaws.{accepted-cut}
use Rattle.mrd_salvage.specs.Salvage.{before, close_added, most_kept, kept}
use Rattle.mrd_salvage.proofs.KeptLaws.{kept-front}
use Rattle.mrd_salvage.proofs.SavedLaws.{its-kinds, added-lacks, unadded-ends, order_front, ends-not-lacks, front_of, met-first, kept-added, kept-unadded, kept-well}
use Rattle.mrd_salvage.specs.Torn.{TornAt}

-- more are taken than stand in the first of two lists: all of these, and then of the others
take_beyond : {A : Type 0} (n : ℕ) (xs ys : List A) → length xs ≤ n → take n (xs ++ ys) ≡ xs ++ take (n - length xs) ys
take_beyond n [] ys h = ap (λ (k : ℕ). take k ys) (sym (sub-zero n))
take_beyond zero (x ∷ xs) ys h = absurd (omega arith)
take_beyond (suc n) (x ∷ xs) ys h =
    let less : suc n - suc (length xs) ≡ n - length xs = omega arith in
    rw less (ap (λ (l : List _). x ∷ l) (take_beyond n xs ys (omega arith)))

-- whatever well-formed messages stand at the front of s, and of some accepted stream, are kept first
module _ (rules : Rules) (s : List ℕ) (ms : List (List ℕ)) (w : Every (WellFormed rules) ms) (rest : List ℕ) (here : joined ms ++ rest ≡ s)
    (more : List ℕ) {n : ℕ} (e : answer rules (joined ms ++ more) ≡ accepted n) where
  abbrev its : Acceptable rules (joined ms ++ more)
  its = (accepted-cut rules (joined ms ++ more) e).0

  first_of : (others : List (List ℕ)) × (its.cut.pieces ≡ ms ++ others)
  first_of = front_of rules ms its.cut.pieces more w its.cut.well (sym its.cut.whole)

  their-kinds : (ls : List Kind) × (kinds_of its.cut ≡ kinds_in rules ms w ++ ls)
  their-kinds = kinds-first rules ms first_of.0 (sym first_of.1) its.cut.well w

  few : length ms + length first_of.0 ≤ max_messages
  few = subst (λ (k : ℕ). k ≤ max_messages) (ap length first_of.1 ∙ length-append ms first_of.0) its.few

  ordered : InOrder (kinds_in rules ms w)
  ordered = order_front (kinds_in rules ms w) their-kinds.0 (subst InOrder their-kinds.1 its.ordered)

  before-first : (others : List (List ℕ)) × (before rules s ≡ ms ++ others)
  unfolding trace
  before-first =
      let m = met-first rules ms w beginning rest ((in_order_iff (kinds_in rules ms w)).1 ordered) (omega (arith, few)) in
      (m.0, ap (λ (t : List ℕ). pieces_of (walk rules t 0 beginning)) (sym here) ∙ m.1)

  -- with a close after them they are not too many: so many end in a close
  not-all : close_added rules s ≡ true → length ms ≤ most_kept
  not-all u =
      elim (dec_le (length ms) most_kept) [
        | yes h ↦ h
        | no h ↦ absurd (too_many h)
      ]
    where
      lacks : Lacks close (kinds_in rules ms w)
      lacks =
          let k = kinds-first rules ms before-first.0 (sym before-first.1) (met rules s).well w in
          (every_split _ (kinds_in rules ms w) k.0 (subst (Lacks close) k.1 (added-lacks rules s u))).0

      none_other : (others : List (List ℕ)) → its.cut.pieces ≡ ms ++ others → length others ≡ 0 → its.cut.pieces ≡ ms
      none_other [] p z = p ∙ append-nil ms
      none_other (o ∷ os) p z = absurd (omega arith)

      too_many : (length ms ≤ most_kept → ⊥) → ⊥
      too_many h =
          let same = none_other first_of.0 first_of.1 (omega (arith, few, h)) in
          let kinds = kinds-same rules same its.cut.well w in
          ends-not-lacks (kinds_in rules ms w) (subst EndsInClose kinds its.closed) lacks

  pub kept-longest : (others : List (List ℕ)) × (kept rules s ≡ ms ++ others)
  kept-longest = by (close_added rules s) refl
    where
      by : (add : Bool) → close_added rules s ≡ add → (others : List (List ℕ)) × (kept rules s ≡ ms ++ others)
      by false u = (before-first.0, kept-unadded rules s u ∙ before-first.1)
      by true u =
          (take (most_kept - length ms) before-first.0, kept-added rules s u ∙ ap (take most_kept) before-first.1 ∙ take_beyond most_kept ms before-first.0 (not-all u))

torn-at : (ms : List (List ℕ)) (b : ℕ) → b < length (joined ms) → TornAt ms b
torn-at [] b h = absurd (omega arith)
torn-at (m ∷ ms) b h =
    elim (dec_le (length m) b) [
      | yes i ↦
          let left : b - length m < length (joined ms) = omega (arith, i, simp length-append at h) in
          let t = torn-at ms (b - length m) left in
          record {
            front = m ∷ t.front;
            message = t.message;
            back = t.back;
            part = t.part;
            lost = t.lost;
            cut = ap (λ (l : List (List ℕ)). m ∷ l) t.cut;
            torn =
                take_beyond b m (joined ms) i ∙ ap (λ (l : List ℕ). m ++ l) t.torn ∙ sym (append_assoc m (joined t.front) t.part);
            halves = t.halves;
            some = t.some;
          }
      | no i ↦
          record {
            front = [];
            message = m;
            back = ms;
            part = take b m;
            lost = drop b m;
            cut = refl;
            torn = take-append-le b m (joined ms) (omega (arith, i));
            halves = take-append-drop b m;
            some = simp length-drop (omega (arith, i));
          }
    ]

-- no part of a well-formed message begins with a well-formed one
none_in_part : {rules : Rules} (m part lost o rest : List ℕ) → WellFormed rules m → WellFormed rules o → part ++ lost ≡ m → 0 < length lost → o ++ rest ≡ part → ⊥
none_in_part m part lost o rest w v halves some p =
    let split : o ++ (rest ++ lost) ≡ m ++ [] = sym (append_assoc o rest lost) ∙ ap (λ (l : List ℕ). l ++ lost) p ∙ halves ∙ sym (append-nil m) in
    let same : o ≡ m = prefix_free o m (rest ++ lost) [] v w split in
    let short = simp length-append at (ap length p) in
    let long = simp length-append at (ap length halves) in
    omega (arith, ap length same, short, long, some)

-- an accepted stream torn at byte b: the messages that are whole by then are what is kept
module _ (rules : Rules) (s : List ℕ) {n : ℕ} (e : answer rules s ≡ accepted n) (b : ℕ) (h : b < length s) where
  abbrev pieces : List (List ℕ)
  pieces = before rules s

  whole : joined pieces ≡ s
  whole = let a = accepted-cut rules s e in ap joined (sym a.1) ∙ a.0.cut.whole

  pub tear : TornAt pieces b
  tear = torn-at pieces b (rw whole h)

  torn-well : Every (WellFormed rules) (tear.front ++ (tear.message ∷ tear.back))
  torn-well = subst (Every (WellFormed rules)) tear.cut (met rules s).well

  abbrev parts : Every (WellFormed rules) tear.front × Every (WellFormed rules) (tear.message ∷ tear.back)
  parts = every_split (WellFormed rules) tear.front (tear.message ∷ tear.back) torn-well

  pub torn-bytes : joined tear.front ++ tear.part ≡ take b s
  torn-bytes = sym tear.torn ∙ ap (take b) whole

  all : joined tear.front ++ joined (tear.message ∷ tear.back) ≡ s
  all = sym (joined-append tear.front (tear.message ∷ tear.back)) ∙ ap joined (sym tear.cut) ∙ whole

  longest : (others : List (List ℕ)) × (kept rules (take b s) ≡ tear.front ++ others)
  longest =
      kept-longest rules (take b s) tear.front parts.0 tear.part torn-bytes (joined (tear.message ∷ tear.back)) (ap (answer rules) all ∙ e)

  -- no other is
  none : (others : List (List ℕ)) → kept rules (take b s) ≡ tear.front ++ others → others ≡ []
  none [] k = refl
  none (o ∷ os) k =
      let f = kept-front rules (take b s) in
      let w = (every_split (WellFormed rules) tear.front (o ∷ os) (subst (Every (WellFormed rules)) k (kept-well rules (take b s)))).1.0 in
      let bytes : joined (kept rules (take b s)) ≡ joined tear.front ++ joined (o ∷ os) = ap joined k ∙ joined-append tear.front (o ∷ os) in
      let split : joined tear.front ++ (joined (o ∷ os) ++ f.0) ≡ joined tear.front ++ tear.part =
      sym (append_assoc (joined tear.front) (joined (o ∷ os)) f.0) ∙ ap (λ (l : List ℕ). l ++ f.0) (sym bytes) ∙ f.1 ∙ sym torn-bytes in
      let rest : o ++ (joined os ++ f.0) ≡ tear.part =
      sym (append_assoc o (joined os) f.0) ∙ append_cancel_left (joined tear.front) (joined (o ∷ os) ++ f.0) tear.part split in
      absurd (none_in_part tear.message tear.part tear.lost o (joined os ++ f.0) parts.1.0 w tear.halves tear.some rest)

  pub torn-kept : kept rules (take b s) ≡ tear.front
  torn-kept = longest.1 ∙ ap (λ (l : List (List ℕ)). tear.front ++ l) (none longest.0 longest.1) ∙ append-nil tear.front

  -- and they lack a close, which is the last message of the whole stream
  pub torn-added : close_added rules (take b s) ≡ true
  torn-added = by (close_added rules (take b s)) refl
    where
      lacks : Lacks close (kinds_in rules tear.front parts.0)
      lacks =
          let kinds : its-kinds rules s ≡ kinds_in rules tear.front parts.0 ++ kinds_in rules (tear.message ∷ tear.back) parts.1 =
          kinds-same rules tear.cut (met rules s).well torn-well ∙
          kinds-append rules tear.front (tear.message ∷ tear.back) torn-well parts.0 parts.1 in
          ((met rules s).ordered (kinds_in rules tear.front parts.0) parts.1.0.kind (kinds_in rules tear.back parts.1.1) kinds).0

      by : (add : Bool) → close_added rules (take b s) ≡ add → add ≡ true
      by true u = refl
      by false u =
          let same : before rules (take b s) ≡ tear.front = sym (kept-unadded rules (take b s) u) ∙ torn-kept in
          let kinds = kinds-same rules same (met rules (take b s)).well parts.0 in
          absurd (ends-not-lacks (kinds_in rules tear.front parts.0) (subst EndsInClose kinds (unadded-ends rules (take b s) u)) lacks)
