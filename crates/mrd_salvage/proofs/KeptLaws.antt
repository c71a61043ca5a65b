-- What is kept is the front of the stream; the report by what a walk reaches is the stream's; and what each way through the code answers and leaves.
-- Assumes nothing.
use Rattle.std.specs.Prelude.{ℕ, suc, ◌+◌, ◌-◌, ◌≤◌, ◌<◌, ◌≡◌, refl, Bool, true, false, not, take, drop}
use Rattle.std.proofs.Math.Decide.{dec_le}
use Rattle.std.proofs.Common.{arith, sym, ◌∙◌, lt-ltb, le-ltb, length-append, length-drop, take-append-drop, length-take-le, take_all, take_at}
use Rattle.std.proofs.Math.Path.{ap}
use mathlib.Core.List.{List, [], ◌++◌, append-nil, append_assoc}
use Rattle.std.proofs.Math.ListN.{length}
use Rattle.std.proofs.Math.Seq.{take-length}
use Rattle.mrd_logic.specs.Answer.{answered, and_then}
use Rattle.mrd_logic.specs.Answer as answers
use Rattle.mrd_logic.specs.Choice.{pick}
use Rattle.mrd_logic.specs.Joined.{joined, joined-append}
use Rattle.mrd_numbers.specs.Little.{to_bytes}
use Rattle.mrd_numbers.specs.Stored.{front, part_from, returned, length_part, front-next}
use Rattle.mrd_format.specs.declared.rules.Rules.{Rules}
use Rattle.mrd_stream.specs.Output.{output_by}
use Rattle.mrd_cut.proofs.WalkedLaws.{met}
use Rattle.mrd_salvage.specs.declared.reach.Reach.{Reach}
use Rattle.mrd_salvage.specs.declared.report.Report.{Report}
use Rattle.mrd_salvage.specs.Salvage.{before, close_added, most_kept, kept, closing, salvaged, report, salvage_answer, salvage_output}
use Rattle.mrd_salvage.specs.Reached.{reached, report_up_to, report_by}
use Rattle.mrd_salvage.specs.ReachLaws.{reached-number, reached-end, reached-closed, reached-last}

-- the messages that are kept are the first of those before the fault
pub kept-first : (rules : Rules) (s : List ℕ) → (others : List (List ℕ)) × (kept rules s ++ others ≡ before rules s)
unfolding kept
kept-first rules s = by (close_added rules s)
  where
    by : (add : Bool) → (others : List (List ℕ)) × (pick add (take most_kept (before rules s)) (before rules s) ++ others ≡ before rules s)
    by true = (drop most_kept (before rules s), take-append-drop most_kept (before rules s))
    by false = ([], append-nil (before rules s))

-- so their bytes are the front of the stream
pub kept-front : (rules : Rules) (s : List ℕ) → (rest : List ℕ) × (joined (kept rules s) ++ rest ≡ s)
kept-front rules s =
    let k = kept-first rules s in
    let split = sym (joined-append (kept rules s) k.0) ∙ ap joined k.1 in
    let m = met rules s in (
      joined k.0 ++ m.rest,
      sym (append_assoc (joined (kept rules s)) (joined k.0) m.rest) ∙ ap (λ (l : List ℕ). l ++ m.rest) split ∙ m.whole,
    )

kept-within : (rules : Rules) (s : List ℕ) → length (joined (kept rules s)) ≤ length s
kept-within rules s = let k = kept-front rules s in omega (arith, simp length-append at (ap length k.1))

kept-taken : (rules : Rules) (s : List ℕ) → take (length (joined (kept rules s))) s ≡ joined (kept rules s)
kept-taken rules s =
    let k = kept-front rules s in
    ap (take (length (joined (kept rules s)))) (sym k.1) ∙ take_at (joined (kept rules s)) k.0 (length (joined (kept rules s))) refl

-- the report on a stream of b bytes with the messages ms before its fault, of which with a close after them so many may be kept
abbrev report_on : ℕ → ℕ → List (List ℕ) → Bool → Report
report_on most b ms add =
    record {
      messages_kept = length (pick add (take most ms) ms);
      bytes_not_kept = b - length (joined (pick add (take most ms) ms));
      close_added = add;
      length = length (joined (pick add (take most ms) ms) ++ closing add);
    }

-- is the one by what a walk reaches that meets them, at most one too many
module _ (most b : ℕ) (ms : List (List ℕ)) (r : Reach) (count : r.number ≡ length ms) (end : r.end ≡ length (joined ms)) where
  closed_on : r.closed ≡ true → report_up_to most r b ≡ report_on most b ms false
  closed_on e = rw (e, count, end, append-nil)

  open-on : r.closed ≡ false → ((n : ℕ) → length ms ≡ suc n → r.last ≡ length (joined (take n ms))) → length ms ≤ suc most →
      report_up_to most r b ≡ report_on most b ms true
  open-on e last few =
      elim (dec_le (length ms) most) [
        | yes h ↦ rw (e, count, le-ltb most (length ms) h, take_all most ms h, end, length-append)
        | no h ↦
            let all : length ms ≡ suc most = omega (arith, h) in
            let more : most < length ms = omega arith in
            rw (e, count, lt-ltb most (length ms) more, last most all, length-take-le most ms (omega arith), length-append)
      ]

pub report-reached : (rules : Rules) (s : List ℕ) → report_by (reached rules s) (length s) ≡ report rules s
unfolding report kept salvaged
report-reached rules s = by (reached rules s).closed refl
  where
    r : Reach
    r = reached rules s

    by : (closed : Bool) → r.closed ≡ closed → report_by r (length s) ≡ report_on most_kept (length s) (before rules s) (close_added rules s)
    by true e =
        closed_on most_kept (length s) (before rules s) r (reached-number rules s) (reached-end rules s) e ∙
        ap (report_on most_kept (length s) (before rules s)) (sym (ap not e) ∙ reached-closed rules s)
    by false e =
        open-on most_kept (length s) (before rules s) r (reached-number rules s) (reached-end rules s) e (reached-last rules s) (met rules s).few ∙
        ap (report_on most_kept (length s) (before rules s)) (sym (ap not e) ∙ reached-closed rules s)

-- the bytes k at the front of o, x then, and a close in the part after them, which came back as y
pub put-closed : (k o x y : List ℕ) → length k + 2 ≤ length o → x ≡ take (length k) k ++ drop (length k) o → y ≡ to_bytes 2 4 ++ drop 2 (part_from (length k) x) →
    returned (length k) x y ≡ front (k ++ closing true) o
put-closed k o x y h p q =
    let copied : x ≡ k ++ drop (length k) o = rw take-length at p in
    front-next (length k) 2 o x k (closing true) y copied refl (omega arith) refl q ∙
    ap (λ (n : ℕ). (k ++ closing true) ++ drop n o) (sym (length-append k (closing true)))

-- which has room for it
pub close_fits : (k o x : List ℕ) → length k + 2 ≤ length o → x ≡ take (length k) k ++ drop (length k) o → 2 ≤ length (part_from (length k) x)
close_fits k o x h p =
    let size = simp (take-length, length-append, length-drop) at (ap length p) in
    rw length_part (omega (arith, size))

pub put_open : (k o x : List ℕ) → x ≡ take (length k) k ++ drop (length k) o → x ≡ front (k ++ closing false) o
put_open k o x p = rw append-nil (rw take-length at p)

-- what is answered for s, and what the output o is then, by the answer
module _ (rules : Rules) (s o : List ℕ) where
  abbrev Answers : answers.Answer Report → List ℕ → Type 0
  Answers a out = (a ≡ salvage_answer rules s (length o)) × (out ≡ salvage_output rules s o)

  by_answer : {a : answers.Answer Report} → salvage_answer rules s (length o) ≡ a →
      Answers a (output_by (and_then a (λ r. answered r.length)) (salvaged rules s) o)
  unfolding salvage_output
  by_answer e = (sym e, ap (λ (a : answers.Answer Report). output_by (and_then a (λ r. answered r.length)) (salvaged rules s) o) (sym e))

  -- with the report r at hand: what it says of the length, and of the bytes that are kept
  module _ {r : Report} (e : r ≡ report rules s) where
    its-length : r.length ≡ length (salvaged rules s)
    unfolding report
    its-length = rw e

    pub lost-within : r.bytes_not_kept ≤ length s
    unfolding report
    lost-within = rw e (omega arith)

    kept-part : take (length s - r.bytes_not_kept) s ≡ joined (kept rules s)
    unfolding report
    kept-part =
        let end : length s - (length s - length (joined (kept rules s))) ≡ length (joined (kept rules s)) = omega (arith, kept-within rules s) in
        rw (e, end) (kept-taken rules s)

    its-split : take (length s - r.bytes_not_kept) s ++ closing r.close_added ≡ salvaged rules s
    unfolding report salvaged
    its-split = rw (kept-part, e)

    -- an output that is too short, and one that is not
    pub output-short : length o < r.length → Answers (answers.number 14) o
    unfolding salvage_answer
    output-short h = by_answer {a = answers.number 14} (rw (lt-ltb _ _ (rw its-length at h)))

    pub room : r.length ≤ length o → length (take (length s - r.bytes_not_kept) s) + length (closing r.close_added) ≤ length o
    room h = omega (arith, its-length, ap length its-split, length-append (take (length s - r.bytes_not_kept) s) (closing r.close_added))

    pub output-fits : r.length ≤ length o → {out : List ℕ} → out ≡ front (take (length s - r.bytes_not_kept) s ++ closing r.close_added) o →
        Answers (answered r) out
    unfolding salvage_answer report
    output-fits h p =
        let all = by_answer {a = answered (report rules s)} (rw (le-ltb _ _ (rw its-length at h))) in
        (ap answered e ∙ all.0, p ∙ ap (λ (l : List ℕ). front l o) its-split ∙ all.1)
