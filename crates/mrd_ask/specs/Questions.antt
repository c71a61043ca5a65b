-- A question about a record as a value: 'place and kind', 'views', 'field', 'find'.
-- Assumes nothing.
use Rattle.std.specs.Prelude.{ℕ, List}
use Rattle.mrd_logic.specs.Answer.{Answer}
use Rattle.mrd_stream.specs.Places as places
use Rattle.mrd_views.specs.Views.{view_of}
use Rattle.mrd_fields.specs.Fields.{field_of}
use Rattle.mrd_find.specs.Find.{find_of}
use Rattle.mrd_ask.specs.declared.question.Question.{Question}
use Rattle.mrd_ask.specs.Replies.{Replied, place, view, field, found, reply}
use Rattle.mrd_format.specs.declared.rules.Rules.{Rules}

-- the answer about the stream s; cs are the counters that a search asks for. With an index given it is `and_then` what the index is found to be:
-- 'stream refusal first, then 15 if an index is lent, then 16, 17 or 20'
unfoldable pub ask_of : Rules → List ℕ → Question → List ℕ → Answer Replied
ask_of rules s (Question.Place n) cs = reply place (places.place rules s n)
ask_of rules s (Question.View n p) cs = reply view (view_of rules s n p)
ask_of rules s (Question.Field n o) cs = reply field (field_of rules s n o)
ask_of rules s (Question.Find n) cs = reply found (find_of rules s n cs)
