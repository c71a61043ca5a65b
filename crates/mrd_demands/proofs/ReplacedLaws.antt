-- Bytes of one message of a stream replaced by others: where that leaves a well-formed message with the same id, an accepted stream is accepted with
-- the same count; and where it leaves the same record or normal form, the stream's records or normal form are the same.
-- Assumes nothing.
use Rattle.std.specs.Prelude.{ℕ, zero, suc, ◌+◌, ◌≤◌, ◌≡◌, refl, List, [], ◌∷◌, ◌++◌, length}
use Rattle.std.proofs.Common.{arith, sym, ap, ap₂, subst, ◌∙◌, append_assoc}
use Rattle.std.proofs.lemmas.List.{take-append-le, drop-append-le}
use Rattle.std.proofs.Math.Seq.{take-append-add, drop-append-add}
use Rattle.mrd_numbers.specs.Stored.{stored}
use Rattle.mrd_logic.specs.Every.{Every}
use Rattle.mrd_logic.specs.Lists.{Nth}
use Rattle.mrd_logic.specs.ListLaws.{nth-map}
use Rattle.mrd_logic.specs.Joined.{joined}
use Rattle.mrd_logic.specs.Answer.{accepted, answered}
use Rattle.mrd_format.specs.declared.kind.Kind.{Kind}
use Rattle.mrd_format.specs.declared.rules.Rules.{Rules}
use Rattle.mrd_format.specs.Message.{id_at}
use Rattle.mrd_format.specs.WellFormed.{WellFormed}
use Rattle.mrd_format.specs.Content.{record_of, normal_of}
use Rattle.mrd_cursor.specs.declared.cursor.Cursor.{Cursor}
use Rattle.mrd_stream.specs.Walk.{Trace, trace, answer}
use Rattle.mrd_stream.specs.Places.{Located, places, place}
use Rattle.mrd_stream.specs.Normal.{normal}
use Rattle.mrd_cut.specs.Cut.{Cut, kinds_in}
use Rattle.mrd_cut.specs.Walked.{Walks, pieces_of}
use Rattle.mrd_cut.specs.Walked.{ends, faults, meets}
use Rattle.mrd_cut.proofs.WalkedLaws.{walks}
use Rattle.mrd_cut.specs.Accepted.{Acceptable}
use Rattle.mrd_cut.proofs.AcceptedLaws.{accepted-cut, cut-accepted}
use Rattle.mrd_cut.specs.CutPlaces.{part_at}
use Rattle.mrd_cut.proofs.CutPlacesLaws.{places-pieces}
use Rattle.mrd_cut.proofs.InsideLaws.{place-nth}
use Rattle.mrd_demands.specs.Records.{records}
use Rattle.mrd_cut.specs.Each.{each_in}
use Rattle.mrd_demands.proofs.NormalStreams.{records-cut, normal-cut}
use Rattle.mrd_demands.specs.Replaced.{SameMeaning}

-- bytes stored in the first of two lists, and in the second
stored-front : (m t : List ℕ) (k : ℕ) (w : List ℕ) → k + length w ≤ length m → stored k w (m ++ t) ≡ stored k w m ++ t
unfolding stored
stored-front m t k w fits =
    let less : k ≤ length m = omega arith in
    rw (take-append-le, drop-append-le, append_assoc, append_assoc)

stored_back : (m t : List ℕ) (k : ℕ) (w : List ℕ) → stored (length m + k) w (m ++ t) ≡ m ++ stored k w t
unfolding stored
stored_back m t k w =
    let far : length m + k + length w ≡ length m + (k + length w) = omega arith in
    rw (far, take-append-add, drop-append-add, append_assoc)

-- messages with n in place of message i
abbrev put : ℕ → List ℕ → List (List ℕ) → List (List ℕ)
put i n [] = []
put zero n (m ∷ ms) = n ∷ ms
put (suc i) n (m ∷ ms) = m ∷ put i n ms

-- the bytes before message i
abbrev start_of : ℕ → List (List ℕ) → ℕ
start_of i [] = 0
start_of zero (m ∷ ms) = 0
start_of (suc i) (m ∷ ms) = length m + start_of i ms

put_count : (i : ℕ) (n : List ℕ) (ms : List (List ℕ)) → length (put i n ms) ≡ length ms
put_count i n [] = refl
put_count zero n (m ∷ ms) = refl
put_count (suc i) n (m ∷ ms) = ap suc (put_count i n ms)

abbrev put-well : {rules : Rules} (i : ℕ) (n : List ℕ) (ms : List (List ℕ)) → WellFormed rules n → Every (WellFormed rules) ms → Every (WellFormed rules) (put i n ms)
put-well i n [] v w = tt
put-well zero n (m ∷ ms) v w = (v, w.1)
put-well (suc i) n (m ∷ ms) v w = (w.0, put-well i n ms v w.1)

-- messages with one id are of one kind
put-kinds : {rules : Rules} (i : ℕ) (n m : List ℕ) (ms : List (List ℕ)) (v : WellFormed rules n) (w : Every (WellFormed rules) ms) → id_at n ≡ id_at m → Nth ms i m →
    kinds_in rules (put i n ms) (put-well i n ms v w) ≡ kinds_in rules ms w
put-kinds {rules} i n m [] v w e h = absurd h
put-kinds {rules} zero n m (x ∷ ms) v w e h =
    let same : v.kind ≡ w.0.kind = cc (v.known, w.0.known, e, ap id_at h) in
    ap (λ (k : Kind). k ∷ kinds_in rules ms w.1) same
put-kinds {rules} (suc i) n m (x ∷ ms) v w e h = ap (λ (ks : List Kind). w.0.kind ∷ ks) (put-kinds i n m ms v w.1 e h)

-- what is found in it as in message i is found in all of them
put-each : {rules : Rules} {A : Type 0} (f : Kind → List ℕ → A) (i : ℕ) (n m : List ℕ) (ms : List (List ℕ)) (v : WellFormed rules n) (w : Every (WellFormed rules) ms) →
    ((u : WellFormed rules m) → f v.kind n ≡ f u.kind m) → Nth ms i m → each_in rules f (put i n ms) (put-well i n ms v w) ≡ each_in rules f ms w
put-each {rules} f i n m [] v w e h = absurd h
put-each {rules} f zero n m (x ∷ ms) v w e h =
    let u : WellFormed rules m = subst (WellFormed rules) h w.0 in
    let same : f u.kind m ≡ f w.0.kind x = cc (u.known, w.0.known, ap id_at h, h) in
    ap (λ a. a ∷ each_in rules f ms w.1) (e u ∙ same)
put-each {rules} f (suc i) n m (x ∷ ms) v w e h = ap (λ found. f w.0.kind x ∷ found) (put-each f i n m ms v w.1 e h)

put-joined : (i : ℕ) (m : List ℕ) (ms : List (List ℕ)) (k : ℕ) (w : List ℕ) → k + length w ≤ length m → Nth ms i m →
    joined (put i (stored k w m) ms) ≡ stored (start_of i ms + k) w (joined ms)
put-joined i m [] k w fits h = absurd h
put-joined zero m (x ∷ ms) k w fits h =
    let none : 0 + k ≡ k = omega arith in
    rw (h, none) (sym (stored-front m (joined ms) k w fits))
put-joined (suc i) m (x ∷ ms) k w fits h =
    let far : length x + start_of i ms + k ≡ length x + (start_of i ms + k) = omega arith in
    rw (far, put-joined i m ms k w fits h) (sym (stored_back x (joined ms) (start_of i ms + k) w))

-- the places of a walk start after the messages before them
start_of_lem : {rules : Rules} {c : Cursor} {s : List ℕ} {r : Trace} → Walks rules c s r → (i : ℕ) (l : Located) → Nth (places r) i l →
    l.start ≡ c.start + start_of i (pieces_of r)
start_of_lem ends i l h = absurd h
start_of_lem (faults e) i l h = absurd h
start_of_lem (meets {c} {m} w a n v) zero l h = sym (ap (λ (k : Located). k.start) h) ∙ omega arith
start_of_lem (meets {c} {m} w a n v) (suc i) l h = omega (arith, start_of_lem v i l h)

-- record i's message, at l in the accepted stream s, with other bytes w from its byte k on, well formed and of the same id
module _ {rules : Rules}
    (s : List ℕ) {c : ℕ} (e : answer rules s ≡ accepted c) (i : ℕ) {l : Located} (p : place rules s i ≡ answered l) (k : ℕ) (w : List ℕ)
    (fits : k + length w ≤ length (part_at s l)) (v : WellFormed rules (stored k w (part_at s l)))
    (same : id_at (stored k w (part_at s l)) ≡ id_at (part_at s l)) where
  abbrev its : Cut rules s
  its = (accepted-cut rules s e).0.cut

  here : Nth its.pieces i (part_at s l)
  here =
      let at_place : Nth (pieces_of (trace rules s)) i (part_at s l) =
      rw (places-pieces (walks rules s) [] refl) at (nth-map (part_at s) (places (trace rules s)) i l (place-nth rules s i p)) in
      rw (accepted-cut rules s e).1 at_place

  whole : joined (put i (stored k w (part_at s l)) its.pieces) ≡ stored (l.start + k) w s
  whole =
      let start : l.start ≡ start_of i its.pieces = rw (accepted-cut rules s e).1 (omega (arith, start_of_lem (walks rules s) i l (place-nth rules s i p))) in
      put-joined i (part_at s l) its.pieces k w fits here ∙ ap₂ (λ (t : List ℕ) (b : ℕ). stored (b + k) w t) its.whole (sym start)

  -- its cut has that message in place of message i
  abbrev replaced : Cut rules (stored (l.start + k) w s)
  replaced = record {
    pieces = put i (stored k w (part_at s l)) its.pieces;
    well = put-well i (stored k w (part_at s l)) its.pieces v its.well;
    whole = whole;
  }

  -- so the stream is accepted
  pub replaced-accepted : answer rules (stored (l.start + k) w s) ≡ accepted c
  replaced-accepted =
      let a = accepted-cut rules s e in
      let kinds = put-kinds i (stored k w (part_at s l)) (part_at s l) its.pieces v its.well same here in
      let again : Acceptable rules (stored (l.start + k) w s) =
      record { cut = replaced; few = rw put_count a.0.few; ordered = rw kinds a.0.ordered; closed = rw kinds a.0.closed } in
      cut-accepted (stored (l.start + k) w s) again ∙ ap accepted (put_count i (stored k w (part_at s l)) its.pieces ∙ a.2)

  -- and where the message is the same record, and has the same normal form, so it is with the stream
  replaced-records : ((u : WellFormed rules (part_at s l)) → record_of v.kind (stored k w (part_at s l)) ≡ record_of u.kind (part_at s l)) →
      records rules (stored (l.start + k) w s) ≡ records rules s
  replaced-records r =
      records-cut (stored (l.start + k) w s) replaced-accepted replaced ∙
      put-each record_of i (stored k w (part_at s l)) (part_at s l) its.pieces v its.well r here ∙ sym (records-cut s e its)

  replaced-normal : ((u : WellFormed rules (part_at s l)) → normal_of v.kind (stored k w (part_at s l)) ≡ normal_of u.kind (part_at s l)) →
      normal rules (stored (l.start + k) w s) ≡ normal rules s
  replaced-normal r =
      normal-cut (stored (l.start + k) w s) replaced-accepted replaced ∙
      ap joined (put-each normal_of i (stored k w (part_at s l)) (part_at s l) its.pieces v its.well r here) ∙ sym (normal-cut s e its)

  pub replaced-same : ((u : WellFormed rules (part_at s l)) → record_of v.kind (stored k w (part_at s l)) ≡ record_of u.kind (part_at s l)) →
      ((u : WellFormed rules (part_at s l)) → normal_of v.kind (stored k w (part_at s l)) ≡ normal_of u.kind (part_at s l)) →
      SameMeaning rules s (stored (l.start + k) w s) c
  replaced-same r m = record { accepted-too = replaced-accepted; same-records = replaced-records r; same-normal = replaced-normal m }
