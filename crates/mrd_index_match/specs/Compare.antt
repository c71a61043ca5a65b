-- A given index, as a file or as columns, compared with the one that the stream yields; and what the comparison answers.
-- Assumes nothing.
use Rattle.std.specs.Prelude.{ℕ, suc, ◌+◌, ◌*◌, ◌≤◌, Bool, true, ◌&&◌, List, [], ◌∷◌, drop, Result}
use Rattle.mrd_logic.specs.Choice.{pick}
use Rattle.mrd_logic.specs.Lists.{begins, equal}
use Rattle.mrd_logic.specs.Answer.{Verdict, accepted, refused, Answer, answered, stream, number, unless_refused}
use Rattle.mrd_cursor.specs.Cursors.{max_messages}
use Rattle.mrd_stream.specs.declared.refused.Refused.{Refused}
use Rattle.mrd_stream.specs.Refused.{told}
use Rattle.mrd_stream.specs.Walk.{answer}
use Rattle.mrd_stream.specs.Index.{Entry, front_field, entry_field, end_field, index, start_column, id_column, counter_column}
use Rattle.mrd_format.specs.declared.rules.Rules.{Rules}

-- what is said of an index that is found to be the stream's own, and of a refusal
abbrev pub matched_meaning : Result (Unit {0}) Refused → Answer (Unit {0})
matched_meaning q = told (λ u. u) q

-- 15 for an index that is found not to be the one that the stream yields
abbrev pub believed : Bool → Answer (Unit {0})
believed x = pick x (answered tt) (number 15)

-- 'its stream refusal first, then 15', for a given file, which is to be the index byte for byte
unfoldable pub file_match : Rules → List ℕ → List ℕ → Answer (Unit {0})
file_match rules s file = unless_refused (answer rules s) (believed (equal file (index rules s)))

-- 'columns equal the index when none is too short and the records' places hold its numbers'
unfoldable pub columns_match : Rules → List ℕ → List ℕ → List ℕ → List ℕ → Answer (Unit {0})
columns_match rules s starts ids counters =
    unless_refused (answer rules s) (believed (begins (start_column rules s) starts && (begins (id_column rules s) ids && begins (counter_column rules s) counters)))

-- a file begins as the index of a stream of so many bytes
abbrev pub front_in_file : List ℕ → ℕ → Bool
front_in_file f total = begins (front_field total) f

-- it holds the entry e of record n, at byte 16 + 17 n
abbrev pub entry_in_file : List ℕ → ℕ → Entry → Bool
entry_in_file f n e = begins (entry_field e) (drop (16 + 17 * n) f)

-- it ends as the index of a stream of so many records
abbrev pub end_in_file : List ℕ → ℕ → Bool
end_in_file f n = equal (drop (16 + 17 * n) f) (end_field n)

-- columns hold the entry e of record n, at place n
abbrev pub entry_in_columns : List ℕ → List ℕ → List ℕ → ℕ → Entry → Bool
entry_in_columns starts ids counters n e =
    begins (e.start ∷ []) (drop n starts) && (begins (e.id ∷ []) (drop n ids) && begins (e.counter ∷ []) (drop n counters))

-- what is given, of which `entry_by` tells, holds the entries es, from record i on
abbrev pub all_same : (ℕ → Entry → Bool) → ℕ → List Entry → Bool
all_same entry_by i [] = true
all_same entry_by i (e ∷ es) = entry_by i e && all_same entry_by (suc i) es

-- the answer where the walk ends, b says whether all was the same so far, and `end_by` whether what is given ends so
abbrev pub conclusion : (ℕ → Bool) → Bool → Verdict → Answer (Unit {0})
conclusion end_by b (accepted n) = believed (b && end_by n)
conclusion end_by b (refused n r a) = stream n r a

-- so many records as an accepted stream can have
abbrev pub Counts : Verdict → Type 0
Counts (accepted n) = n ≤ max_messages
Counts (refused n r b) = Unit {0}
