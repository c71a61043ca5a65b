-- What is saved of a stream: it is accepted, an accepted stream is saved as it is, and no longer front could have been kept.
-- Assumes nothing.
use Rattle.std.specs.Prelude.{ℕ, zero, suc, ◌+◌, ◌≤◌, ◌≡◌, List, [], ◌∷◌, ◌++◌, length, take, Some}
use Rattle.std.proofs.Common.{arith, ◌∙◌, subst, append-nil, append_assoc, length-append}
use Rattle.std.proofs.Math.Path.{refl, sym, ap}
use Rattle.std.proofs.Math.Bool.{Bool, true, false, not}
use Rattle.std.proofs.lemmas.List.{append_cancel_left}
use Rattle.mrd_numbers.specs.Little.{num}
use Rattle.mrd_logic.specs.Answer.{accepted, refused}
use Rattle.mrd_logic.specs.Choice.{pick}
use Rattle.mrd_logic.specs.Every.{Every, every_split, every_append}
use Rattle.mrd_logic.specs.Joined.{joined, joined-append}
use Rattle.mrd_utf8.specs.Utf8.{empty}
use Rattle.mrd_format.specs.declared.kind.Kind.{Kind}
use Rattle.mrd_format.specs.declared.kind.Kind.TheVariants.{Close}
use Rattle.mrd_format.specs.declared.rules.Profile.{Profile}
use Rattle.mrd_format.specs.declared.rules.Profile.TheVariants.{Plain, Strict}
use Rattle.mrd_format.specs.declared.rules.Rules.{Rules}
use Rattle.mrd_format.specs.Kinds.{identified}
use Rattle.mrd_format.specs.Message.{id_at, fixed_part, own_checks, size_of, body_size}
use Rattle.mrd_logic.specs.Checks.{first}
use Rattle.mrd_format.specs.Content.{record_of, contents_of, extent_of}
use Rattle.mrd_format.specs.Profiles.{texts_in, Encoded}
use Rattle.mrd_format.specs.WellFormed.{WellFormed}
use Rattle.mrd_format.specs.MessageLaws.{prefix_free}
use Rattle.mrd_cursor.specs.declared.cursor.Cursor.{Cursor}
use Rattle.mrd_cursor.specs.declared.cursor.Phase.{Phase}
use Rattle.mrd_cursor.specs.declared.cursor.Phase.TheVariants.{Start}
use Rattle.mrd_cursor.specs.Order.{allowed, is_closed, next_phase}
use Rattle.mrd_cursor.specs.Cursors.{max_messages, after}
use Rattle.mrd_stream.specs.Walk.{ended_as, ended, Trace, walk, trace, answer}
use Rattle.mrd_cut.specs.Cut.{kinds_in, close, Lacks, InOrder, EndsInClose}
use Rattle.mrd_cut.specs.Each.{kind_unique, kinds-same, kinds-append, kinds-first}
use Rattle.mrd_cut.specs.OrderRule.{phase_from, phase_after, AllowedFrom}
use Rattle.mrd_cut.proofs.OrderRuleLaws.{in_order_iff, allowed_iff_in_order, closed_iff_ends, open_iff_lacks_close}
use Rattle.mrd_cut.specs.Unique.{not-empty}
use Rattle.mrd_cut.specs.Walked.{Walks, Stops, cursor_after, pieces_of}
use Rattle.mrd_cut.specs.Walked.{ends, faults, meets}
use Rattle.mrd_cut.proofs.WalkedLaws.{walks, walk-well, refused-not-accepted, met}
use Rattle.mrd_cut.specs.Accepted.{Acceptable}
use Rattle.mrd_cut.proofs.AcceptedLaws.{accepted-cut, cut-accepted}
use Rattle.mrd_salvage.specs.Salvage.{before, phase_in, close_added, most_kept, kept, closing, salvaged}
use Rattle.mrd_salvage.proofs.KeptLaws.{kept-first}
use Rattle.mrd_salvage.specs.Saved.{added_messages, AcceptableAs}

-- a close is a well-formed message
pub close_encoded : (f : Profile) → Encoded f (texts_in (record_of Close (closing true)).parts)
unfolding record_of contents_of extent_of
close_encoded Plain = tt
close_encoded Strict = (empty, (empty, (empty, tt)))

pub close_known : (rules : Rules) → identified rules (id_at (closing true)) ≡ Some Close
unfolding identified num
close_known rules = refl

pub close_sound : first (own_checks Close (fixed_part Close (closing true))) ≡ 0
unfolding own_checks
close_sound = refl

pub close_size : size_of Close (fixed_part Close (closing true)) ≡ 2
unfolding size_of body_size
close_size = refl

abbrev pub close_well : (rules : Rules) → WellFormed rules (closing true)
close_well rules =
    record {
      kind = Close;
      known = close_known rules;
      sound = close_sound;
      small = omega (arith, close_size);
      whole = close_size;
      encoded = close_encoded rules.profile;
    }

-- the first of kinds in order are in order
pub order_front : (ks js : List Kind) → InOrder (ks ++ js) → InOrder ks
order_front ks js o b k rest e = o b k (rest ++ js) (ap (λ (l : List Kind). l ++ js) e ∙ append_assoc b (k ∷ rest) js)

-- a close may follow kinds in order that lack one
allowed-last : (p : Phase) (ks : List Kind) → AllowedFrom p ks → allowed Close (phase_from p ks) ≡ true → AllowedFrom p (ks ++ (Close ∷ []))
allowed-last p [] a e = (e, tt)
allowed-last p (k ∷ ks) a e = (a.0, allowed-last (next_phase k p) ks a.1 e)

order_closed : (ks : List Kind) → InOrder ks → Lacks close ks → InOrder (ks ++ (Close ∷ []))
order_closed ks o l =
    (in_order_iff (ks ++ (Close ∷ []))).0 (allowed-last Start ks ((in_order_iff ks).1 o) ((allowed_iff_in_order ks Close o).1 (l, tt)))

-- kinds that end in a close do not lack one
pub ends-not-lacks : (ks : List Kind) → EndsInClose ks → Lacks close ks → ⊥
ends-not-lacks ks e l = (every_split _ e.0 (Close ∷ []) (subst (Lacks close) e.1 l)).1.0 refl

-- the phase that a walk comes to is that of the kinds that it met
phase_kinds : {rules : Rules} {c : Cursor} {s : List ℕ} {r : Trace} → Walks rules c s r → (p : Phase) (w : Every (WellFormed rules) (pieces_of r)) →
    phase_in p r ≡ phase_from p (kinds_in rules (pieces_of r) w)
phase_kinds ends p w = refl
phase_kinds (faults e) p w = refl
phase_kinds (meets v a n later) p w = rw (kind_unique v w.0) (phase_kinds later _ w.1)

-- what is known of the messages before the fault
module _ (rules : Rules) (s : List ℕ) where
  abbrev pub its-kinds : List Kind
  its-kinds = kinds_in rules (before rules s) (met rules s).well

  phase-is : phase_in Start (trace rules s) ≡ phase_after its-kinds
  phase-is = phase_kinds (walks rules s) Start (met rules s).well

  -- where a close is added they lack one, else they end in one
  pub added-lacks : close_added rules s ≡ true → Lacks close its-kinds
  unfolding close_added
  added-lacks e = (open_iff_lacks_close its-kinds (met rules s).ordered).0 (opened (is_closed (phase_after its-kinds)) (sym (ap (λ (p : Phase). not (is_closed p)) phase-is) ∙ e))
    where
      opened : (b : Bool) → not b ≡ true → b ≡ false
      opened true e = sym e
      opened false e = refl

  pub unadded-ends : close_added rules s ≡ false → EndsInClose its-kinds
  unfolding close_added
  unadded-ends e = (closed_iff_ends its-kinds (met rules s).ordered).0 (shut (is_closed (phase_after its-kinds)) (sym (ap (λ (p : Phase). not (is_closed p)) phase-is) ∙ e))
    where
      shut : (b : Bool) → not b ≡ false → b ≡ true
      shut true e = refl
      shut false e = sym e

-- messages at the front of well-formed ones that join to the same bytes are the first of these
pub front_of : (rules : Rules) (ms ns : List (List ℕ)) (more : List ℕ) → Every (WellFormed rules) ms → Every (WellFormed rules) ns → joined ms ++ more ≡ joined ns →
    (others : List (List ℕ)) × (ns ≡ ms ++ others)
front_of rules [] ns more w v e = (ns, refl)
front_of rules (m ∷ ms) [] more w v e = absurd (not-empty m (joined ms ++ more) w.0 (sym (append_assoc m (joined ms) more) ∙ e))
front_of rules (m ∷ ms) (n ∷ ns) more w v e =
    let split : m ++ (joined ms ++ more) ≡ n ++ joined ns = sym (append_assoc m (joined ms) more) ∙ e in
    let first : m ≡ n = prefix_free m n (joined ms ++ more) (joined ns) w.0 v.0 split in
    let rest : joined ms ++ more ≡ joined ns = append_cancel_left m (joined ms ++ more) (joined ns) (split ∙ ap (λ (l : List ℕ). l ++ joined ns) (sym first)) in
    let later = front_of rules ms ns more w.1 v.1 rest in
    (later.0, cc later.1)

-- well-formed messages, allowed and not too many, are met first, whatever follows them
pub met-first : (rules : Rules) (ms : List (List ℕ)) (w : Every (WellFormed rules) ms) (c : Cursor) (rest : List ℕ) → AllowedFrom c.phase (kinds_in rules ms w) →
    c.number + length ms ≤ max_messages → (others : List (List ℕ)) × (pieces_of (walk rules (joined ms ++ rest) 0 c) ≡ ms ++ others)
met-first rules [] w c rest a n = (pieces_of (walk rules rest 0 c), refl)
met-first rules (m ∷ ms) w c rest a n =
    let later = met-first rules ms w.1 (after c w.0.kind (length m)) rest a.1 (omega arith) in
    (later.0, rw (append_assoc, walk-well c m (joined ms ++ rest) w.0 a.0 (omega arith)) (ap (λ (l : List (List ℕ)). m ∷ l) later.1))

-- no more are taken than asked for
taken-few : {A : Type 0} (n : ℕ) (xs : List A) → length (take n xs) ≤ n
taken-few zero xs = omega arith
taken-few (suc n) [] = omega arith
taken-few (suc n) (x ∷ xs) = let r = taken-few n xs in omega (arith, r)

-- well-formed messages in order without a close are acceptable with one after them
with_close_lem : (rules : Rules) (ms : List (List ℕ)) (w : Every (WellFormed rules) ms) → InOrder (kinds_in rules ms w) → Lacks close (kinds_in rules ms w) →
    suc (length ms) ≤ max_messages → AcceptableAs rules (joined ms ++ closing true) (ms ++ added_messages true)
with_close_lem rules ms w o l n =
    let all : Every (WellFormed rules) (ms ++ added_messages true) = every_append (WellFormed rules) ms (added_messages true) w (close_well rules, tt) in
    let kinds : kinds_in rules (ms ++ added_messages true) all ≡ kinds_in rules ms w ++ (Close ∷ []) =
    kinds-append rules ms (added_messages true) all w (close_well rules, tt) in (
      record {
        cut = record { pieces = ms ++ added_messages true; well = all; whole = joined-append ms (added_messages true) };
        few = rw length-append (omega arith);
        ordered = rw kinds (order_closed (kinds_in rules ms w) o l);
        closed = (kinds_in rules ms w, kinds);
      },
      refl,
    )

-- of one stream
module _ (rules : Rules) (s : List ℕ) where
  -- what is kept, where a close is added and where not
  pub kept-added : close_added rules s ≡ true → kept rules s ≡ take most_kept (before rules s)
  unfolding kept
  kept-added e = ap (λ (add : Bool). pick add (take most_kept (before rules s)) (before rules s)) e

  pub kept-unadded : close_added rules s ≡ false → kept rules s ≡ before rules s
  unfolding kept
  kept-unadded e = ap (λ (add : Bool). pick add (take most_kept (before rules s)) (before rules s)) e

  pub kept-well : Every (WellFormed rules) (kept rules s)
  kept-well =
      let k = kept-first rules s in
      (every_split (WellFormed rules) (kept rules s) k.0 (subst (Every (WellFormed rules)) (sym k.1) (met rules s).well)).0

  abbrev kept-kinds : List Kind
  kept-kinds = kinds_in rules (kept rules s) kept-well

  kinds_kept : (ls : List Kind) × (its-kinds rules s ≡ kept-kinds ++ ls)
  kinds_kept = kinds-first rules (kept rules s) (kept-first rules s).0 (kept-first rules s).1 (met rules s).well kept-well

  kept-ordered : InOrder kept-kinds
  kept-ordered = order_front kept-kinds kinds_kept.0 (subst InOrder kinds_kept.1 (met rules s).ordered)

  -- the salvaged stream is acceptable: its messages are those that are kept and the close that is added
  pub saved : AcceptableAs rules (salvaged rules s) (kept rules s ++ added_messages (close_added rules s))
  unfolding salvaged
  saved = by (close_added rules s) refl
    where
      Saved : Bool → Type 0
      Saved add = AcceptableAs rules (joined (kept rules s) ++ closing add) (kept rules s ++ added_messages add)

      by : (add : Bool) → close_added rules s ≡ add → Saved (close_added rules s)
      by true e =
          let lacks = (every_split _ kept-kinds kinds_kept.0 (subst (Lacks close) kinds_kept.1 (added-lacks rules s e))).0 in
          let few : length (kept rules s) ≤ most_kept = subst (λ (l : List (List ℕ)). length l ≤ most_kept) (sym (kept-added e)) (taken-few most_kept (before rules s)) in
          subst Saved (sym e) (with_close_lem rules (kept rules s) kept-well kept-ordered lacks (omega arith))
      by false e =
          let same = sym (kept-unadded e) in
          let a : Acceptable rules (joined (kept rules s) ++ []) = record {
            cut = record { pieces = kept rules s; well = kept-well; whole = sym (append-nil (joined (kept rules s))) };
            few = subst (λ (l : List (List ℕ)). length l ≤ max_messages) same (met rules s).few;
            ordered = kept-ordered;
            closed = subst EndsInClose (kinds-same rules same (met rules s).well kept-well) (unadded-ends rules s e);
          } in
          subst Saved (sym e) (a, sym (append-nil (kept rules s)))

  -- so it is accepted
  pub salvaged-accepted : answer rules (salvaged rules s) ≡ accepted (length (kept rules s) + pick (close_added rules s) 1 0)
  salvaged-accepted =
      cut-accepted (salvaged rules s) saved.0 ∙ ap accepted (ap length saved.1 ∙ counted (close_added rules s))
    where
      counted : (add : Bool) → length (kept rules s ++ added_messages add) ≡ length (kept rules s) + pick add 1 0
      counted true = length-append (kept rules s) (added_messages true)
      counted false = length-append (kept rules s) []

  -- an accepted stream is kept whole, and nothing is added
  module _ {n : ℕ} (e : answer rules s ≡ accepted n) where
    pub accepted-unadded : close_added rules s ≡ false
    accepted-unadded = by (close_added rules s) refl
      where
        by : (add : Bool) → close_added rules s ≡ add → add ≡ false
        by false u = refl
        by true u =
            let a = accepted-cut rules s e in
            let kinds = kinds-same rules a.1 a.0.cut.well (met rules s).well in
            absurd (ends-not-lacks (its-kinds rules s) (subst EndsInClose kinds a.0.closed) (added-lacks rules s u))

    pub accepted-kept : kept rules s ≡ before rules s
    accepted-kept = kept-unadded accepted-unadded

    pub accepted-whole : joined (kept rules s) ≡ s
    accepted-whole = let a = accepted-cut rules s e in ap joined (accepted-kept ∙ sym a.1) ∙ a.0.cut.whole

    pub accepted-count : length (kept rules s) ≡ n
    accepted-count = let a = accepted-cut rules s e in ap length (accepted-kept ∙ sym a.1) ∙ a.2

    pub accepted-unchanged : salvaged rules s ≡ s
    unfolding salvaged
    accepted-unchanged = rw (accepted-unadded, append-nil) accepted-whole

  -- a refusal's record and byte are the number of the messages before the fault, and of their bytes
  pub refused-counts : {f n b : ℕ} → answer rules s ≡ refused f n b → (length (before rules s) ≡ n) × (length (joined (before rules s)) ≡ b)
  unfolding ended
  refused-counts {f} {n} {b} e = by (met rules s).rest (subst (Stops rules c (met rules s).rest) e (met rules s).stops)
    where
      c : Cursor
      c = cursor_after rules (before rules s) (met rules s).well

      ended_at : (closed : Bool) → refused f n b ≡ ended_as closed c → (c.number ≡ n) × (c.start ≡ b)
      ended_at true u = absurd (refused-not-accepted u)
      ended_at false u = (cc, cc)

      by : (rest : List ℕ) → Stops rules c rest (refused f n b) → (c.number ≡ n) × (c.start ≡ b)
      by [] u = ended_at (is_closed c.phase) u
      by (x ∷ t) u = let same : refused f n b ≡ refused u.0 c.number c.start = u.2 in (cc, cc)
