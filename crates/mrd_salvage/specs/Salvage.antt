-- 'Save a torn recording': what is kept of a stream, what is written, and the report.
-- Assumes nothing.
use Rattle.std.specs.Prelude.{ℕ, ◌-◌, Bool, not, List, [], ◌∷◌, ◌++◌, ltb, length, take, Result}
use Rattle.mrd_logic.specs.Answer.{Answer, answered, number, and_then}
use Rattle.mrd_logic.specs.Choice.{pick}
use Rattle.mrd_logic.specs.Joined.{joined}
use Rattle.mrd_format.specs.declared.rules.Rules.{Rules}
use Rattle.mrd_format.specs.declared.refusal.Refusal.{Refusal}
use Rattle.mrd_format.specs.Refusals.{answer_in}
use Rattle.mrd_cursor.specs.declared.cursor.Phase.{Phase}
use Rattle.mrd_cursor.specs.declared.cursor.Phase.TheVariants.{Start}
use Rattle.mrd_cursor.specs.Order.{is_closed, next_phase}
use Rattle.mrd_stream.specs.Walk.{Trace, message, done, trace}
use Rattle.mrd_stream.specs.Output.{output_by}
use Rattle.mrd_cut.specs.Walked.{pieces_of}
use Rattle.mrd_salvage.specs.declared.report.Report.{Report}

-- 'every message before the faulty one', in order; of an accepted stream all
abbrev pub before : Rules → List ℕ → List (List ℕ)
before rules s = pieces_of (trace rules s)

-- how far the order of messages comes in a walk, from the phase p on
abbrev pub phase_in : Phase → Trace → Phase
phase_in p (message c k m r) = phase_in (next_phase k p) r
phase_in p (done v) = p

-- whether a close is added: not where these messages have one, what follows it being 'bytes after a close', or nothing
unfoldable pub close_added : Rules → List ℕ → Bool
close_added rules s = not (is_closed (phase_in Start (trace rules s)))

-- 'where it adds a close it keeps at most 999,999 messages'
abbrev pub most_kept : ℕ
most_kept = 999999

-- the messages that are kept
unfoldable pub kept : Rules → List ℕ → List (List ℕ)
kept rules s = pick (close_added rules s) (take most_kept (before rules s)) (before rules s)

-- 'a close', its id alone, where it is added
abbrev pub closing : Bool → List ℕ
closing add = pick add (4 ∷ 0 ∷ []) []

-- the salvaged stream: those messages, 'unchanged', 'then a close'
unfoldable pub salvaged : Rules → List ℕ → List ℕ
salvaged rules s = joined (kept rules s) ++ closing (close_added rules s)

-- 'the report gives the messages kept, the input bytes not kept, and whether a close was added'; and the length of the salvaged stream
unfoldable pub report : Rules → List ℕ → Report
report rules s =
    record {
      messages_kept = length (kept rules s);
      bytes_not_kept = length s - length (joined (kept rules s));
      close_added = close_added rules s;
      length = length (salvaged rules s);
    }

-- what is said of the report on a stream that is saved, and of a refusal
abbrev pub salvaged_meaning : Result Report Refusal → Answer Report
salvaged_meaning q = answer_in (λ r. r) q

-- the answer for the stream s and an output of so many bytes: 'refusals: 14 only'
unfoldable pub salvage_answer : Rules → List ℕ → ℕ → Answer Report
salvage_answer rules s room = pick (ltb room (length (salvaged rules s))) (number 14) (answered (report rules s))

-- the output afterwards, which held o: where the call wrote, the salvaged stream stands at its front
unfoldable pub salvage_output : Rules → List ℕ → List ℕ → List ℕ
salvage_output rules s o = output_by (and_then (salvage_answer rules s (length o)) (λ r. answered r.length)) (salvaged rules s) o
