-- An output on the way to holding the entries of a stream: what the walk has written, and what is still to do.
-- Assumes nothing.
use Rattle.std.specs.Prelude.{ℕ, ◌+◌, ◌*◌, ◌≤◌, ◌≡◌, refl, List, [], ◌∷◌, ◌++◌, map, length}
use Rattle.std.proofs.Common.{add-zero, arith, sym, ap, ◌∙◌, append-nil, append_assoc, length-append, take-append-drop}
use Rattle.mrd_numbers.specs.Stored.{stored, length-stored, stored_next}
use Rattle.mrd_cursor.specs.declared.cursor.Cursor.{Cursor}
use Rattle.mrd_cursor.specs.Cursors.{beginning}
use Rattle.mrd_logic.specs.Answer.{Verdict}
use Rattle.mrd_stream.specs.Index.{Entry, entries_of, entries, entry_field, entry_fields}
use Rattle.mrd_stream.specs.Places.{Located, over, step}
use Rattle.mrd_stream.specs.StepLaws.{Passes, On, on-start, on-next, on-end}
use Rattle.mrd_index.specs.Entries.{entry_at, passes-number, passes-entry}
use Rattle.mrd_format.specs.declared.rules.Rules.{Rules}

-- how entries are laid out, one after the other: where that of record n stands, what one and what all of them are written as
pub record Arrangement : Type 0 where
  pub at : ℕ → ℕ
  pub one : Entry → List ℕ
  pub all : List Entry → List ℕ
  pub none : all [] ≡ []
  pub more : (e : Entry) (es : List Entry) → all (e ∷ es) ≡ one e ++ all es
  pub next-at : (n : ℕ) (e : Entry) → at (n + 1) ≡ at n + length (one e)

-- in a file, from byte 16 on
abbrev pub in_file : Arrangement
in_file =
    record {
      at = λ n. 16 + 17 * n;
      one = entry_field;
      all = entry_fields;
      none = refl;
      more = λ e es. refl;
      next-at = λ n e. omega arith;
    }

-- in a column, which holds one number of each
abbrev pub in_column : (Entry → ℕ) → Arrangement
in_column number =
    record {
      at = λ n. n;
      one = λ e. number e ∷ [];
      all = map number;
      none = refl;
      more = λ e es. refl;
      next-at = λ n e. refl;
    }

-- the walk over s stands at c; out, which was o, holds the entries of what was passed
pub record Filling (rules : Rules) (f : Arrangement) (s o : List ℕ) (c : Cursor) (out : List ℕ) : Type 0 where
  pub room : f.at 0 + length (f.all (entries rules s)) ≤ length o
  pub ready : List ℕ
  pub long : f.at c.number ≡ f.at 0 + length ready
  pub holds : out ≡ stored (f.at 0) ready o
  pub whole : On rules (λ r. ready ++ f.all (entries_of r)) (f.all (entries rules s)) c s

pub start : (rules : Rules) {f : Arrangement} {s o : List ℕ} → f.at 0 + length (f.all (entries rules s)) ≤ length o → Filling rules f s o beginning o
unfolding entries stored
start rules {f} {s} {o} h =
    record {
      room = h;
      ready = [];
      long = omega arith;
      holds = rw add-zero (sym (take-append-drop (f.at 0) o));
      whole = on-start rules (λ r. f.all (entries_of r)) s;
    }

-- the output keeps its length
pub same_size : {rules : Rules} {f : Arrangement} {s o out : List ℕ} {c : Cursor} → Filling rules f s o c out → length out ≡ length o
same_size {f} {s} {o} {out} {c} h =
    let all = simp length-append at (ap length h.whole.kept) in
    ap length h.holds ∙ length-stored (f.at 0) h.ready o (omega (arith, all, h.room))

-- past a message with the entry e
module _ {rules : Rules} {f : Arrangement} {s o out : List ℕ} {c d : Cursor} {l : Located} (h : Filling rules f s o c out) (p : Passes rules c s l d) where
  more : On rules (λ r. (h.ready ++ f.one (entry_at s l)) ++ f.all (entries_of r)) (f.all (entries rules s)) d s
  more =
      let a = h.ready in
      let n = f.one (entry_at s l) in
      on-next rules (λ r. a ++ f.all (entries_of r)) s (λ r. (a ++ n) ++ f.all (entries_of r)) h.whole p
      (λ r. ap (λ (es : List Entry). a ++ f.all es) (passes-entry p r) ∙
      ap (λ (t : List ℕ). a ++ t) (f.more (entry_at s l) (entries_of r)) ∙ sym (append_assoc a n (f.all (entries_of r))))

  -- its place follows what is written
  place : f.at l.number ≡ f.at 0 + length h.ready
  place = ap f.at (passes-number p) ∙ h.long

  -- its entry has room in the output
  pub room : f.at l.number + length (f.one (entry_at s l)) ≤ length out
  room =
      let all = simp length-append at (ap length more.kept) in
      omega (arith, all, place, h.room, same_size h)

  -- and is written there
  pub next : {out' : List ℕ} → out' ≡ stored (f.at l.number) (f.one (entry_at s l)) out → Filling rules f s o d out'
  next {out'} e =
      let a = h.ready in
      let n = f.one (entry_at s l) in
      let fits : f.at 0 + length a ≤ length o = omega (arith, room, place, same_size h) in
      record {
        room = h.room;
        ready = a ++ n;
        long = ap f.at p.counted ∙ f.next-at c.number (entry_at s l) ∙ omega (arith, h.long, length-append a n);
        holds = e ∙ rw (place, h.holds) (stored_next (f.at 0) a n o fits);
        whole = more;
      }

-- at the end
pub finish : {rules : Rules} {f : Arrangement} {s o out : List ℕ} {c : Cursor} {v : Verdict} → Filling rules f s o c out → step rules c s ≡ over v →
    out ≡ stored (f.at 0) (f.all (entries rules s)) o
finish {rules} {f} {s} {o} {out} {c} {v} h e =
    let all : h.ready ++ f.all [] ≡ f.all (entries rules s) = on-end rules (λ r. h.ready ++ f.all (entries_of r)) s h.whole e in
    let nothing : h.ready ++ f.all [] ≡ h.ready = ap (λ (t : List ℕ). h.ready ++ t) f.none ∙ append-nil h.ready in
    h.holds ∙ ap (λ (m : List ℕ). stored (f.at 0) m o) (sym nothing ∙ all)
