-- 'Find': 'the number of the first acquisition from record n on whose seventeen counters equal the seventeen asked for, else 16'.
-- Assumes nothing.
use Rattle.std.specs.Prelude.{ℕ, Bool, ◌&&◌, List, leb, eqb}
use Rattle.mrd_format.specs.declared.kind.Kind.{Kind}
use Rattle.mrd_format.specs.declared.rules.Rules.{Rules}
use Rattle.mrd_format.specs.declared.kind.Kind.TheVariants.{Acquisition}
use Rattle.mrd_format.specs.Kinds.{id_of}
use Rattle.mrd_format.specs.Acquisition.{counters_of}
use Rattle.mrd_format.specs.Message.{fixed_part}
use Rattle.mrd_cursor.specs.declared.cursor.Cursor.{Cursor}
use Rattle.mrd_logic.specs.Answer.{Answer, answered, number, unless_refused}
use Rattle.mrd_logic.specs.Choice.{pick}
use Rattle.mrd_stream.specs.Walk.{Trace, message, done, trace, answer}
use Rattle.mrd_logic.specs.Lists.{equal}

-- an 'acquisition from record n on': record i, of kind k
abbrev pub candidate : ℕ → ℕ → Kind → Bool
candidate n i k = leb n i && eqb (id_of k) (id_of Acquisition)

-- a candidate, the message m of kind k at c, 'whose seventeen counters equal the seventeen asked for'
abbrev pub matches : ℕ → List ℕ → Cursor → Kind → List ℕ → Bool
matches n cs c k m = candidate n c.number k && equal (counters_of (fixed_part k m)) cs

-- the first match of a trace, else 16
abbrev pub first_match : ℕ → List ℕ → Trace → Answer ℕ
first_match n cs (message c k m r) = pick (matches n cs c k m) (answered c.number) (first_match n cs r)
first_match n cs (done v) = number 16

-- the record with the counters cs, from record n on: the stream's refusal first, then 16
unfoldable pub find_of : Rules → List ℕ → ℕ → List ℕ → Answer ℕ
find_of rules s n cs = unless_refused (answer rules s) (first_match n cs (trace rules s))
