-- The theorems of the three demands and of the requests, each proved in a line from named parts; start here. They hold of every stream, and are
-- said with the answer (`answer`, `accepted`, `refused`), the record list (`records`), the normal form (`normal`), well-formed messages
-- (`WellFormed`) and cuts (`Cut`). That the code gives these answers and writes these bytes is what its contracts say.
-- Assumes nothing.
use Rattle.std.specs.Prelude.{ℕ, ◌+◌, ◌≤◌, ◌<◌, ◌≡◌, true, false, ◌↔◌, ◌⊎◌, List, [], ◌∷◌, ◌++◌, map, length, take, drop, Some}
use Rattle.std.proofs.Common.{arith, sym, ap, ◌∙◌}
use Rattle.mrd_numbers.specs.Little.{num, Bytes}
use Rattle.mrd_numbers.specs.Stored.{stored}
use Rattle.mrd_utf8.specs.Utf8.{Utf8}
use Rattle.mrd_utf8.specs.Fold.{utf8_of}
use Rattle.mrd_utf8.specs.FoldLaws.{utf8-exactly}
use Rattle.mrd_logic.specs.Choice.{pick}
use Rattle.mrd_logic.specs.Lists.{Nth}
use Rattle.mrd_logic.specs.Every.{Every}
use Rattle.mrd_logic.specs.Answer.{accepted, refused, Answer, answered, number, and_then}
use Rattle.mrd_format.specs.Parts.{Parts, Contents}
use Rattle.mrd_format.specs.Content.{Record, record_of, bytes_of}
use Rattle.mrd_format.specs.declared.kind.Kind.{Kind}
use Rattle.mrd_format.specs.declared.kind.Kind.TheVariants.{Close, Acquisition, Image, Waveform}
use Rattle.mrd_format.specs.declared.rules.Layout.{Layout}
use Rattle.mrd_format.specs.declared.rules.Layout.TheVariants.{Aligned}
use Rattle.mrd_format.specs.declared.rules.Profile.TheVariants.{Plain, Strict}
use Rattle.mrd_format.specs.Profiles.{rules_by}
use Rattle.mrd_format.specs.Acquisition as acquisition
use Rattle.mrd_format.specs.Image as image
use Rattle.mrd_format.specs.Waveform as waveform
use Rattle.mrd_format.specs.Kinds.{header_size}
use Rattle.mrd_format.specs.Lawful.{SameFields}
use Rattle.mrd_format.specs.WellFormed.{WellFormed}
use Rattle.mrd_format.specs.Holding.{Once}
use Rattle.mrd_format.proofs.HoldingLaws.{held-once}
use Rattle.mrd_format.specs.Message.{numbers_of}
use Rattle.mrd_cursor.specs.declared.cursor.Cursor.{Cursor}
use Rattle.mrd_cursor.specs.Cursors.{beginning}
use Rattle.mrd_stream.specs.Walk.{answer, trace}
use Rattle.mrd_stream.specs.Places.{Located, place}
use Rattle.mrd_demands.specs.Records.{records}
use Rattle.mrd_stream.specs.Normal.{normal}
use Rattle.mrd_stream.specs.Index.{index}
use Rattle.mrd_stream.specs.Output.{output_by}
use Rattle.mrd_logic.specs.Joined.{joined}
use Rattle.mrd_cut.specs.Cut.{Cut}
use Rattle.mrd_cut.specs.Accepted.{Acceptable}
use Rattle.mrd_cut.proofs.AcceptedLaws.{accepted_iff}
use Rattle.mrd_cut.specs.Refused.{RefusedAt}
use Rattle.mrd_cut.proofs.RefusedLaws.{refused_iff}
use Rattle.mrd_cut.specs.CutPlaces.{AnsweredCut}
use Rattle.mrd_cut.proofs.CutPlacesLaws.{places-cut}
use Rattle.mrd_cut.specs.Unique.{cut_unique}
use Rattle.mrd_cut.specs.Steps.{Yields}
use Rattle.mrd_cut.proofs.StepsLaws as steps
use Rattle.mrd_record.specs.AtCursor.{Reached, place_at}
use Rattle.mrd_record.specs.RecordLaws as records-at
use Rattle.mrd_index_match.specs.Compare.{file_match, columns_match}
use Rattle.mrd_index_match.specs.Exactly.{Held}
use Rattle.mrd_index_cursor.specs.IndexCursor.{cursor_for}
use Rattle.mrd_index_cursor.specs.Indexed.{AtRecord, believed_cursor}
use Rattle.mrd_element.specs.declared.byte.ElementPlace.{ElementPlace}
use Rattle.mrd_element.specs.Element.{FieldValue}
use Rattle.mrd_element.specs.Pieces.{place_of, header_pieces, header_byte_of}
use Rattle.mrd_element.specs.PieceLaws.{header_adjoins}
use Rattle.mrd_element.specs.ElementLaws.{filler}
use Rattle.mrd_fields.specs.Fields.{field_of}
use Rattle.mrd_part_at.specs.PartAt.{part_of_byte}
use Rattle.mrd_ask.specs.declared.question.Question.{Question}
use Rattle.mrd_ask.specs.Questions.{ask_of}
use Rattle.mrd_ask.specs.Shown.{SpanIn}
use Rattle.mrd_ask.specs.ShownLaws.{asked-fits, indexed-fits}
use Rattle.mrd_ask.specs.Belief.{Believed}
use Rattle.mrd_ask.specs.BeliefLaws.{ask_believed}
use Rattle.mrd_salvage.specs.Salvage.{kept, closing, salvaged, report, salvage_answer, salvage_output}
use Rattle.mrd_salvage.proofs.SavedLaws as salvage
use Rattle.mrd_writer.specs.Write.{write_answer, write_output}
use Rattle.mrd_writer.specs.WriteLaws.{never_9}
use Rattle.mrd_writer.specs.Disregarded.{given, WrittenAlike, number-disregarded, filler_disregarded}
use Rattle.mrd_writer.specs.ReadBack.{ReadsBack}
use Rattle.mrd_writer.specs.ReadBack as writer
use Rattle.mrd_demands.specs.Refusals.{Refusal, output-kept, written-kept, saved-kept}
use Rattle.mrd_demands.specs.RecordViews.{ViewsOf, EachPart}
use Rattle.mrd_demands.proofs.RecordViewLaws as views
use Rattle.mrd_demands.specs.Messages.{records_in}
use Rattle.mrd_demands.specs.Told.{numbers-told}
use Rattle.mrd_demands.proofs.Masks as masks
use Rattle.mrd_demands.specs.Replaced.{SameMeaning}
use Rattle.mrd_demands.proofs.AttributeLengths as attribute-lengths
use Rattle.mrd_demands.proofs.Layouts as layouts
use Rattle.mrd_demands.specs.StrictTexts.{TextsAreUtf8, ReadAlike}
use Rattle.mrd_demands.proofs.StrictTextLaws as texts
use Rattle.mrd_demands.specs.NamedBytes.{PartsInOrder, NamedOnce}
use Rattle.mrd_demands.proofs.NamedByteLaws as named
use Rattle.mrd_demands.specs.Saved.{SavedOf, ByRefusal, TornSaved}
use Rattle.mrd_demands.proofs.SavedLaws as saved
use Rattle.mrd_demands.proofs.NormalStreams.{accepted-again, normal-long, normal-records, normal-own, normal-written, records-cut}
use Rattle.mrd_format.specs.declared.rules.Rules.{Rules}
use Rattle.mrd_demands.specs.NormalForm.{NormalForm}

-- Demand 1: a refusal changes no output byte

-- whatever was to be written: a normal form, an index, a column
pub refusal_keeps_output : (a : Answer ℕ) → Refusal a → (w o : List ℕ) → output_by a w o ≡ o
refusal_keeps_output = output-kept

-- or a message
pub refused-message_keeps_output : (rules : Rules) (id : ℕ) (c : Contents) (at : ℕ) (o : List ℕ) → Refusal (write_answer rules id c at o) → write_output rules id c at o ≡ o
refused-message_keeps_output = written-kept

-- or what is saved of a torn stream
pub refused_salvage_keeps_output : (rules : Rules) (s o : List ℕ) → Refusal (salvage_answer rules s (length o)) → salvage_output rules s o ≡ o
refused_salvage_keeps_output = saved-kept

-- Demand 2: reading and writing follow the rules

-- a stream is accepted, with the count n, exactly when it has a cut into n well-formed messages, at most 1,000,000, in order, the last a close
pub accepted-exactly : (rules : Rules) (s : List ℕ) (n : ℕ) → (answer rules s ≡ accepted n) ↔ ((a : Acceptable rules s) × (length a.cut.pieces ≡ n))
accepted-exactly = accepted_iff

-- a stream is refused with f, at record n and byte b, exactly when after n well-formed messages in order, of b bytes, comes the fault f: the
-- first check that refuses the message there, or 13 where the stream ends without a close
pub refused-exactly : (rules : Rules) (s : List ℕ) (f n b : ℕ) → (answer rules s ≡ refused f n b) ↔ RefusedAt rules s f n b
refused-exactly = refused_iff

-- a stream has at most one cut
pub one-cut : {rules : Rules} (s : List ℕ) (a b : Cut rules s) → a.pieces ≡ b.pieces
one-cut = cut_unique

-- the places answered for an accepted stream are those of the messages of its only cut, and the count is their number
pub places_are_the_cut : (rules : Rules) (s : List ℕ) (n : ℕ) → answer rules s ≡ accepted n → AnsweredCut rules s n
places_are_the_cut = places-cut

-- the bytes fix the records: the record list of an accepted stream holds the record of each message of its only cut, in order
pub records_are_the_cut : {rules : Rules} (s : List ℕ) (n : ℕ) → answer rules s ≡ accepted n → (c : Cut rules s) → records rules s ≡ records_in rules c.pieces c.well
records_are_the_cut s n e c = records-cut s e c

-- from the beginning on, the steps of a walk yield the places and kinds of the stream's messages in order, and then its answer
pub steps_are_the_messages : (rules : Rules) (s : List ℕ) → Yields rules s beginning (trace rules s)
steps_are_the_messages = steps.steps_follow

-- where a walk over an accepted stream stands after n steps, the record is record n: so are its views and fields
pub walk_stands_at_record : (rules : Rules) (s : List ℕ) {k : ℕ} → answer rules s ≡ accepted k → (n : ℕ) (c : Cursor) → Reached rules s beginning n c →
    place_at rules c s ≡ place rules s n
walk_stands_at_record = records-at.walked-place

-- each view of a record is that part of it, and the record is the record list's
pub views_are_the_records-parts : (rules : Rules) (s : List ℕ) (n : ℕ) {l : Located} → place rules s n ≡ answered l →
    (r : Record) × (Nth (records rules s) n r × ViewsOf rules s n r)
views_are_the_records-parts = views.views_are_parts

-- the view of each part of a record's message is at that part's place, and a view of what is no part of it is 17
pub parts_are_shown : (rules : Rules) (s : List ℕ) (n : ℕ) {l : Located} → place rules s n ≡ answered l → EachPart rules s n l
parts_are_shown = views.each-part-shown

-- what we write reads back as the same record: where the writer answers, what it left is a well-formed message whose record is that of what was
-- given, and wherever order and count allow, a walk over any stream that has it there meets it
pub written_reads_back : (rules : Rules) (id : ℕ) (c : Contents) (at : ℕ) (o : List ℕ) (p : ℕ) → write_answer rules id c at o ≡ answered p → ReadsBack rules id c at o p
written_reads_back = writer.written_reads_back

-- an index is believed exactly when it equals the one the stream itself yields, whatever is asked and in either form
pub index-believed-exactly : (rules : Rules) (s : List ℕ) (q : Question) (cs file starts ids counters : List ℕ) →
    Believed rules s (file ≡ index rules s) (ask_of rules s q cs) (and_then (file_match rules s file) (λ _. ask_of rules s q cs)) ×
    Believed rules s (Held rules s starts ids counters) (ask_of rules s q cs) (and_then (columns_match rules s starts ids counters) (λ _. ask_of rules s q cs))
index-believed-exactly = ask_believed

-- a view's place that is replied, with no index given or with one in either form, lies in the given stream: so the view is that part of it
pub replied_views_lie_in_the_stream : (rules : Rules) (s : List ℕ) (q : Question) (cs file starts ids counters : List ℕ) →
    SpanIn s (ask_of rules s q cs) × (SpanIn s (and_then (file_match rules s file) (λ _. ask_of rules s q cs)) ×
    SpanIn s (and_then (columns_match rules s starts ids counters) (λ _. ask_of rules s q cs)))
replied_views_lie_in_the_stream rules s q cs f a b c =
    (asked-fits rules s q cs, (indexed-fits rules s (file_match rules s f) q cs, indexed-fits rules s (columns_match rules s a b c) q cs))

-- a cursor made from columns that were found to be the stream's own index is at the record with that number: views and fields there are that
-- record's
pub believed-index_gives_cursors : (rules : Rules) (s starts ids counters : List ℕ) → columns_match rules s starts ids counters ≡ answered tt → (n : ℕ) {l : Located} →
    place rules s n ≡ answered l → (c : Cursor) × ((cursor_for rules starts ids n ≡ answered c) × AtRecord rules s n c)
believed-index_gives_cursors = believed_cursor

-- Demand 3: one meaning, one set of bytes

-- two accepted streams of bytes have the same normal form exactly when they have the same records
pub normal_iff_records : (rules : Rules) (s t : List ℕ) (m n : ℕ) → Bytes s → Bytes t → answer rules s ≡ accepted m → answer rules t ≡ accepted n →
    (normal rules s ≡ normal rules t) ↔ (records rules s ≡ records rules t)
normal_iff_records rules s t m n b c p q = (
  λ e. sym (normal-records rules s p) ∙ ap (records rules) e ∙ normal-records rules t q,
  λ e. sym (normal-written rules s p b) ∙ ap (λ (rs : List Record). joined (map bytes_of rs)) e ∙ normal-written rules t q c,
)

-- is accepted with that count, has the stream's length and records, and is its own normal form
pub normal-accepted : (rules : Rules) (s : List ℕ) (n : ℕ) → answer rules s ≡ accepted n → NormalForm rules s n
normal-accepted rules s n e =
    record { accepted-too = accepted-again rules s e; same_length = normal-long rules s e; same-records = normal-records rules s e; its_own = normal-own rules s e }

-- Request E5: stale channel masks

-- no mask is refused: whatever 128 bytes are put in the place of the mask of an acquisition, the stream is accepted as before
pub any_mask_accepted : (rules : Rules) (s : List ℕ) (n : ℕ) → answer rules s ≡ accepted n → (i : ℕ) {l : Located} → place rules s i ≡ answered l → l.kind ≡ Acquisition →
    (w : List ℕ) → length w ≡ 128 → answer rules (stored (l.start + 42) w s) ≡ accepted n
any_mask_accepted rules s n = masks.any_mask_accepted rules s

-- an acquisition's kind carries its mask's answer: the numbers that are handed out are `numbers` of the header, the 340 bytes after the id
pub masks_are_told : (rules : Rules) (s : List ℕ) (i : ℕ) {l : Located} → place rules s i ≡ answered l → l.kind ≡ Acquisition →
    l.numbers ≡ acquisition.numbers (take 340 (drop (l.start + 2) s))
unfolding numbers_of
masks_are_told rules s i p k = rw k at (numbers-told rules s i p)

-- Request E1: attribute length left at zero

-- an image's header may hold 0 or the true length, the 8-byte number after it: whichever of the two is put there, the stream is accepted as before,
-- with the same record list and the same normal form
pub either-number_means_the_same : (rules : Rules) (s : List ℕ) (n : ℕ) → answer rules s ≡ accepted n → (i : ℕ) {l : Located} → place rules s i ≡ answered l →
    l.kind ≡ Image → (w : List ℕ) → length w ≡ 4 → (num 4 w 0 ≡ 0) ⊎ (num 4 w 0 ≡ num 8 s (l.start + 200)) →
    SameMeaning rules s (stored (l.start + 196) w s) n
either-number_means_the_same rules s n = attribute-lengths.either_number rules s

-- the 8-byte number decides: the numbers that an image's kind carries are `numbers` of the 206 bytes after the id, and go by it
pub true_lengths_are_told : (rules : Rules) (s : List ℕ) (i : ℕ) {l : Located} → place rules s i ≡ answered l → l.kind ≡ Image →
    l.numbers ≡ image.numbers (take 206 (drop (l.start + 2) s))
unfolding numbers_of
true_lengths_are_told rules s i p k = rw k at (numbers-told rules s i p)

-- the writer disregards what a given image header holds there: headers of one length that agree in all bytes before it get the same answer, and the
-- output is left the same
pub given-number_disregarded : (rules : Rules) (g h : List ℕ) (ps : Parts) → length g ≡ length h → take 194 g ≡ take 194 h →
    WrittenAlike rules 1022 (given g ps) (given h ps)
given-number_disregarded rules g h ps long same = number-disregarded g h ps long same rules

-- and gives no 9
pub writer_gives_no_9 : (rules : Rules) (id : ℕ) (c : Contents) (at : ℕ) (o : List ℕ) → write_answer rules id c at o ≡ number 9 → ⊥
writer_gives_no_9 = never_9

-- Request E3: aligned waveform headers. Every theorem above is one of all rules, and so of either layout; two streams are compared under one

-- the whole stream uses the layout that the caller says
pub waveforms_have_the_layout : (rules : Rules) (s : List ℕ) (i : ℕ) {l : Located} → place rules s i ≡ answered l → {k : Layout} → l.kind ≡ Waveform k →
    k ≡ rules.layout
waveforms_have_the_layout = layouts.layout_said

-- a waveform's kind carries the numbers of its header, by that layout: `numbers` of the 32 or 40 bytes after the id
pub waveform-numbers_are_told : (rules : Rules) (s : List ℕ) (i : ℕ) {l : Located} → place rules s i ≡ answered l → {k : Layout} → l.kind ≡ Waveform k →
    l.numbers ≡ waveform.numbers k (take (waveform.header_bytes k) (drop (l.start + 2) s))
unfolding numbers_of
waveform-numbers_are_told rules s i p k = rw k at (numbers-told rules s i p)

-- filler is no part of the record: whatever header g is put in the place of a waveform's, so long as it agrees with it in the nine fields, the stream
-- is accepted as before, with the same record list and the same normal form
pub filler_means_nothing : (rules : Rules) (s : List ℕ) (n : ℕ) → answer rules s ≡ accepted n → (i : ℕ) {l : Located} → place rules s i ≡ answered l →
    {k : Layout} → l.kind ≡ Waveform k → (g : List ℕ) → length g ≡ waveform.header_bytes k →
    SameFields (waveform.cells k) g (take (waveform.header_bytes k) (drop (l.start + 2) s)) → SameMeaning rules s (stored (l.start + 2) g s) n
filler_means_nothing rules s n = layouts.same-fields rules s

-- the writer disregards it in a given header, too
pub given-filler_disregarded : (rules : Rules) (g h : List ℕ) (ps : Parts) → length g ≡ length h → SameFields (waveform.cells rules.layout) g h →
    WrittenAlike rules 1026 (given g ps) (given h ps)
given-filler_disregarded = filler_disregarded

-- and no field starts there: 20 at bytes 2 to 7, 38 and 39 of an aligned header
pub no-field_in_filler : (rules : Rules) (s : List ℕ) (i : ℕ) {l : Located} → place rules s i ≡ answered l → l.kind ≡ Waveform Aligned →
    map (field_of rules s i) filler ≡ map (λ (o : ℕ). number 20) filler
no-field_in_filler = layouts.no-field-there

-- Request E9: strict text profile. Every theorem above is one of all rules, and so of either profile; two streams are compared under one

-- which texts are UTF-8: the fold over octets that the code runs accepts those that RFC 3629's rows make, and no others
pub utf8-by_the_rows : (t : List ℕ) → (utf8_of t ≡ true) ↔ Utf8 t
utf8-by_the_rows = utf8-exactly

-- a stream is accepted in the strict profile exactly when it is accepted in the plain one, with the same layout, and each text of each record is
-- UTF-8 by itself
pub strict_accepted-exactly : (l : Layout) (s : List ℕ) (n : ℕ) →
    (answer (rules_by l Strict) s ≡ accepted n) ↔ ((answer (rules_by l Plain) s ≡ accepted n) × Every TextsAreUtf8 (records (rules_by l Plain) s))
strict_accepted-exactly = texts.strict_iff

-- and it is then read as in the plain one: the same places, records, normal form and index
pub strict_reads_the_same : (l : Layout) (s : List ℕ) (n : ℕ) → answer (rules_by l Strict) s ≡ accepted n → ReadAlike (rules_by l Strict) (rules_by l Plain) s
strict_reads_the_same = texts.strict_reads

-- the plain profile asks nothing of a text: no stream is refused with 21
pub plain_gives_no_21 : (l : Layout) (s : List ℕ) (n b : ℕ) → answer (rules_by l Plain) s ≡ refused 21 n b → ⊥
plain_gives_no_21 = texts.plain-no_21

-- Request E12: every byte named once. Of every stream, and of all rules, and so of either layout and either profile

-- the parts of each record adjoin from its first byte to its last, and joined they are its message: nothing stands between them
pub parts_are_the_message : (rules : Rules) (s : List ℕ) (n : ℕ) {l : Located} → place rules s n ≡ answered l → PartsInOrder s l
parts_are_the_message = named.parts_in_order

-- each byte of an accepted stream belongs to exactly one part of exactly one record; that part is what is told of it; and a view by its name is that
-- part
pub each-byte-named_once : (rules : Rules) (s : List ℕ) (n : ℕ) → answer rules s ≡ accepted n → (i : ℕ) → i < length s → NamedOnce rules s i
each-byte-named_once rules s n e = named.byte-named rules s e

-- a byte past the end is 16
pub byte-past_the_end : (rules : Rules) (s : List ℕ) (n : ℕ) → answer rules s ≡ accepted n → (i : ℕ) → length s ≤ i → part_of_byte rules s i ≡ number 16
byte-past_the_end rules s n e = named.byte_past rules s e

-- each byte of a header belongs to exactly one of its elements, or is filler
pub header-bytes-named_once : (k : Kind) (i : ℕ) → i < header_size k → Once place_of (header_pieces k) i
header-bytes-named_once k i = held-once place_of (header_pieces k) 0 (header_size k) i (header_adjoins k) (omega arith)

-- an element that is told of a byte is one that a field question answers, at the offset told
pub told-elements_are_fields : (rules : Rules) (s : List ℕ) (n : ℕ) {l : Located} → place rules s n ≡ answered l → (i : ℕ) {e : ElementPlace} →
    header_byte_of l.kind i ≡ answered (Some e) → (v : FieldValue) × (field_of rules s n e.offset ≡ answered v)
told-elements_are_fields = named.element-field

-- Request E2: save a torn recording. Of every stream, and of all rules

-- what is saved is always accepted, under the same rules, with the messages that are kept and the close that is added
pub salvaged_is_accepted : (rules : Rules) (s : List ℕ) →
    answer rules (salvaged rules s) ≡ accepted ((report rules s).messages_kept + pick (report rules s).close_added 1 0)
unfolding report
salvaged_is_accepted = salvage.salvaged-accepted

-- an accepted stream comes back byte for byte: all is kept, and nothing is added
pub accepted_comes_back : (rules : Rules) (s : List ℕ) (n : ℕ) → answer rules s ≡ accepted n →
    (salvaged rules s ≡ s) × (report rules s ≡ record { messages_kept = n; bytes_not_kept = 0; close_added = false; length = length s })
accepted_comes_back rules s n e = saved.accepted-saved rules s e

-- what is kept is the stream's front, unchanged, and the report's numbers are what they are named for
pub kept_is_the_front : (rules : Rules) (s : List ℕ) → SavedOf rules s (report rules s)
kept_is_the_front = saved.saved_of

-- of a stream that is refused at record n and byte b all n messages before the fault are kept, its first b bytes; but for the last of 1,000,000 without a
-- close, as the close that is added is one message more
pub all-before_the_fault : (rules : Rules) (s : List ℕ) (f n b : ℕ) → answer rules s ≡ refused f n b → ByRefusal rules s n b (report rules s)
all-before_the_fault rules s f n b e = saved.refused-saved rules s e

-- no longer run of messages from the front could have been kept: whatever well-formed messages stand at the front of s, if any bytes at all may follow
-- them in an acceptable stream, they are the first of those that are kept
pub no_longer_front : (rules : Rules) (s : List ℕ) (ms : List (List ℕ)) → Every (WellFormed rules) ms → (rest more : List ℕ) → joined ms ++ rest ≡ s →
    Acceptable rules (joined ms ++ more) → (others : List (List ℕ)) × (kept rules s ≡ ms ++ others)
no_longer_front = saved.none-longer

-- a recording that is torn at any byte: what is saved are its messages that were whole by then, and a close
pub torn_recording_is_saved : (rules : Rules) (s : List ℕ) (n : ℕ) → answer rules s ≡ accepted n → (c : Cut rules s) (b : ℕ) → b < length s →
    TornSaved rules s c.pieces b
torn_recording_is_saved rules s n e c b h = saved.torn-saved rules s e b h c

-- the records of what is saved are the first of the stream's own, and then that of the close that is added
pub saved-records_are_the_first : (rules : Rules) (s : List ℕ) → records rules (salvaged rules s) ≡
    take (report rules s).messages_kept (records rules s) ++ pick (report rules s).close_added (record_of Close (closing true) ∷ []) []
saved-records_are_the_first rules s = saved.saved-records rules s (salvage.salvaged-accepted rules s)

-- salvaging twice changes nothing
pub salvaged_twice : (rules : Rules) (s : List ℕ) → salvaged rules (salvaged rules s) ≡ salvaged rules s
salvaged_twice rules s = saved.saved-again rules s (salvage.salvaged-accepted rules s)
