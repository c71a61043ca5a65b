-- The walk that finds how far a stream can be kept, and what it reaches, said of the messages that it meets.
-- Assumes nothing.
use Rattle.std.specs.Prelude.{ℕ, zero, suc, ◌+◌, ◌≤◌, ◌<◌, ◌≡◌, refl, List, [], ◌∷◌, take, drop}
use Rattle.std.proofs.Common.{add-zero, arith, sym, ◌∙◌, length-drop, length-take-le}
use Rattle.std.proofs.Math.Nat.{zero-add}
use Rattle.std.proofs.Math.Path.{ap}
use Rattle.std.proofs.Math.Bool.{not}
use Rattle.std.proofs.Math.ListN.{length, length-append}
use Rattle.mrd_logic.specs.Joined.{joined}
use Rattle.mrd_format.specs.declared.kind.Kind.{Kind}
use Rattle.mrd_format.specs.declared.rules.Rules.{Rules}
use Rattle.mrd_cursor.specs.declared.cursor.Cursor.{Cursor}
use Rattle.mrd_cursor.specs.Order.{is_closed}
use Rattle.mrd_cursor.specs.Cursors.{beginning, after}
use Rattle.mrd_judge.specs.Judge.{whole, faulty, judge}
use Rattle.mrd_stream.specs.Walk.{Trace, trace}
use Rattle.mrd_stream.specs.Places.{Located, located}
use Rattle.mrd_stream.specs.StepLaws.{Passes, On, on-start, on-next, on-end, step-yields}
use Rattle.mrd_stream.specs.NextLaws as laws
use Rattle.mrd_cut.specs.Walked.{Walks, pieces_of}
use Rattle.mrd_cut.specs.Walked.{ends, faults, meets}
use Rattle.mrd_cut.proofs.WalkedLaws.{walks, met}
use Rattle.mrd_salvage.specs.Salvage.{before, phase_in, close_added}
use Rattle.mrd_salvage.specs.Reached.{reach_at, reach_from, reached}

-- the walk over s is at c, and the last message that it passed starts at `last`: what is reached from here is what the stream reaches
abbrev pub Reaching : Rules → Cursor → ℕ → List ℕ → Type 0
Reaching rules c last s = On rules (reach_from c last) (reached rules s) c s

module _ (rules : Rules) (s : List ℕ) where
  pub start : Reaching rules beginning 0 s
  unfolding reached
  start = on-start rules (reach_from beginning 0) s

  module _ {c : Cursor} {last : ℕ} (r : Reaching rules c last s) where
    -- at the end, and at a fault
    pub ended : length s ≤ c.start → reach_at c last ≡ reached rules s
    ended h = on-end rules (reach_from c last) s r (laws.step-ended rules c s h)

    pub stopped : c.start < length s → {f : ℕ} → judge rules c (drop c.start s) ≡ faulty f → reach_at c last ≡ reached rules s
    stopped h e = on-end rules (reach_from c last) s r (laws.step-faulty rules c s h e)

    -- past a message of kind k and size z
    module _ (h : c.start < length s) {k : Kind} {z : ℕ} (e : judge rules c (drop c.start s) ≡ whole k z) where
      pub passed : Passes rules c s (located c k (take z (drop c.start s))) (after c k z)
      passed = step-yields rules c s (laws.step-whole rules c s h e)

      pub next : Reaching rules (after c k z) c.start s
      next =
          let p = passed in
          let kind : p.kind ≡ k = sym (ap (λ (l : Located). l.kind) p.place) in
          let room : z ≤ length (drop c.start s) = simp length-drop (omega (arith, laws.whole-ends rules c s h e)) in
          let size : length p.bytes ≡ z = sym (ap (λ (l : Located). l.size) p.place) ∙ length-take-le z (drop c.start s) room in
          on-next rules (reach_from c last) s (reach_from (after c k z) c.start) r p (λ t. rw (kind, size))

-- where the last of some messages starts, the first of which starts at b; l where there is none
abbrev last_in : ℕ → ℕ → List (List ℕ) → ℕ
last_in b l [] = l
last_in b l (m ∷ ms) = last_in (b + length m) b ms

last_in_lem : (b l n : ℕ) (ms : List (List ℕ)) → length ms ≡ suc n → last_in b l ms ≡ b + length (joined (take n ms))
last_in_lem b l n [] e = absurd (omega arith)
last_in_lem b l zero (m ∷ []) e = sym (add-zero b)
last_in_lem b l (suc n) (m ∷ []) e = absurd (omega arith)
last_in_lem b l zero (m ∷ (k ∷ ms)) e = absurd (omega arith)
last_in_lem b l (suc n) (m ∷ (k ∷ ms)) e =
    last_in_lem (b + length m) b n (k ∷ ms) (omega arith) ∙ simp length-append (omega arith)

last_within : (b l : ℕ) (ms : List (List ℕ)) → l ≤ b → last_in b l ms ≤ b + length (joined ms)
last_within b l [] h = omega arith
last_within b l (m ∷ ms) h = let later = last_within (b + length m) b ms (omega arith) in simp length-append (omega (arith, later))

-- what is reached from c on, by the messages that the walk meets
record By (c : Cursor) (last : ℕ) (r : Trace) : Type 0 where
  number : (reach_from c last r).number ≡ c.number + length (pieces_of r)
  end : (reach_from c last r).end ≡ c.start + length (joined (pieces_of r))
  closed : (reach_from c last r).closed ≡ is_closed (phase_in c.phase r)
  final : (reach_from c last r).last ≡ last_in c.start last (pieces_of r)

by-messages : {rules : Rules} {c : Cursor} {s : List ℕ} {r : Trace} → Walks rules c s r → (last : ℕ) → By c last r
by-messages (ends {c}) last =
    record { number = sym (add-zero c.number); end = sym (add-zero c.start); closed = refl; final = refl }
by-messages (faults {c} e) last =
    record { number = sym (add-zero c.number); end = sym (add-zero c.start); closed = refl; final = refl }
by-messages (meets {c} {m} {rest} {r} w a n v) last =
    let later = by-messages v c.start in
    record {
      number = omega (arith, later.number);
      end = later.end ∙ simp length-append (omega arith);
      closed = later.closed;
      final = later.final;
    }

-- what the walk of a stream reaches
module _ (rules : Rules) (s : List ℕ) where
  abbrev found : By beginning 0 (trace rules s)
  found = by-messages (walks rules s) 0

  pub reached-number : (reached rules s).number ≡ length (before rules s)
  unfolding reached
  reached-number = found.number ∙ zero-add (length (before rules s))

  pub reached-end : (reached rules s).end ≡ length (joined (before rules s))
  unfolding reached
  reached-end = found.end ∙ zero-add (length (joined (before rules s)))

  pub reached-closed : not (reached rules s).closed ≡ close_added rules s
  unfolding reached close_added
  reached-closed = ap not found.closed

  pub reached-last : (n : ℕ) → length (before rules s) ≡ suc n → (reached rules s).last ≡ length (joined (take n (before rules s)))
  unfolding reached
  reached-last n e = found.final ∙ last_in_lem 0 0 n (before rules s) e ∙ zero-add (length (joined (take n (before rules s))))

  -- it lies in the stream
  pub reached-within : ((reached rules s).end ≤ length s) × ((reached rules s).last ≤ length s)
  unfolding reached
  reached-within =
      let size = simp length-append at (ap length (met rules s).whole) in
      let far = last_within 0 0 (before rules s) (omega arith) in
      (omega (arith, found.end, size), omega (arith, found.final, far, size))
