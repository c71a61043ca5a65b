-- The record list and the normal form of an accepted stream are those of the messages of its only cut; hence the laws of the normal form.
-- Assumes nothing.
use Rattle.std.specs.Prelude.{ℕ, ◌≡◌, refl, List, ◌∷◌, ◌++◌, map, length}
use Rattle.std.proofs.Common.{sym, ◌∙◌}
use Rattle.std.proofs.Math.Path.{ap}
use Rattle.mrd_numbers.specs.Little.{Bytes}
use Rattle.mrd_logic.specs.Every.{Every}
use Rattle.mrd_format.specs.WellFormed.{WellFormed}
use Rattle.mrd_format.specs.Content.{Record, record_of, normal_of, bytes_of}
use Rattle.mrd_cursor.specs.declared.cursor.Cursor.{Cursor}
use Rattle.mrd_stream.specs.Walk.{Trace, trace, answer}
use Rattle.mrd_logic.specs.Answer.{accepted}
use Rattle.mrd_demands.specs.Records.{records_of, records}
use Rattle.mrd_stream.specs.Normal.{normal_from, normal}
use Rattle.mrd_logic.specs.Joined.{joined}
use Rattle.mrd_cut.specs.Cut.{Cut}
use Rattle.mrd_cut.specs.Each.{each_same}
use Rattle.mrd_cut.specs.Unique.{cut_unique}
use Rattle.mrd_cut.specs.Walked.{Walks, pieces_of}
use Rattle.mrd_cut.specs.Walked.{ends, faults, meets}
use Rattle.mrd_cut.proofs.WalkedLaws.{walks}
use Rattle.mrd_cut.specs.Accepted.{Acceptable}
use Rattle.mrd_cut.proofs.AcceptedLaws.{accepted-cut, cut-accepted}
use Rattle.mrd_demands.specs.Messages.{records_in, normals_in, normals_well, normals_count, normals_long, normals_kinds, normals_records, normals_own, records_write}
use Rattle.mrd_format.specs.declared.rules.Rules.{Rules}

-- the messages that a walk met, with their records and normal forms
record ByPieces (rules : Rules) (r : Trace) : Type 0 where
  well : Every (WellFormed rules) (pieces_of r)
  records : records_of r ≡ records_in rules (pieces_of r) well
  normal : normal_from r ≡ joined (normals_in rules (pieces_of r) well)

by-pieces : {rules : Rules} {c : Cursor} {s : List ℕ} {r : Trace} → Walks rules c s r → ByPieces rules r
by-pieces ends = record { well = tt; records = refl; normal = refl }
by-pieces (faults e) = record { well = tt; records = refl; normal = refl }
by-pieces (meets {m = m} w a n v) =
    let later = by-pieces v in
    record {
      well = (w, later.well);
      records = ap (λ (rs : List Record). record_of w.kind m ∷ rs) later.records;
      normal = ap (λ (l : List ℕ). normal_of w.kind m ++ l) later.normal;
    }

-- the records of a stream, accepted or not, are those of the messages that its walk met
pub records-met : (rules : Rules) (s : List ℕ) (ms : List (List ℕ)) (w : Every (WellFormed rules) ms) → pieces_of (trace rules s) ≡ ms → records rules s ≡ records_in rules ms w
unfolding records
records-met rules s ms w e = let t = by-pieces (walks rules s) in t.records ∙ each_same rules record_of t.well w e

module _ {rules : Rules} (s : List ℕ) {n : ℕ} (e : answer rules s ≡ accepted n) (c : Cut rules s) where
  met-cut : pieces_of (trace rules s) ≡ c.pieces
  met-cut = sym (accepted-cut rules s e).1 ∙ cut_unique s (accepted-cut rules s e).0.cut c

  -- the record list of an accepted stream is that of its cut
  pub records-cut : records rules s ≡ records_in rules c.pieces c.well
  records-cut = records-met rules s c.pieces c.well met-cut

  -- and so is its normal form
  pub normal-cut : normal rules s ≡ joined (normals_in rules c.pieces c.well)
  unfolding normal
  normal-cut = let t = by-pieces (walks rules s) in t.normal ∙ ap joined (each_same rules normal_of t.well c.well met-cut)

-- the cut of an accepted stream
module _ (rules : Rules) (s : List ℕ) {n : ℕ} (e : answer rules s ≡ accepted n) where
  abbrev its : Cut rules s
  its = (accepted-cut rules s e).0.cut

  -- the normal forms of its messages are a cut of the normal form
  abbrev normalised : Cut rules (normal rules s)
  normalised = record {
    pieces = normals_in rules
        its.pieces its.well;
    well = normals_well rules its.pieces its.well;
    whole = sym
        (normal-cut s e its);
  }

  -- the normal form is accepted, with the same count
  pub accepted-again : answer rules (normal rules s) ≡ accepted n
  accepted-again =
      let a = accepted-cut rules s e in
      let again : Acceptable rules (normal rules s) = record {
        cut = normalised;
        few = rw normals_count a.0.few;
        ordered = rw normals_kinds a.0.ordered;
        closed = rw normals_kinds a.0.closed;
      } in
      cut-accepted (normal rules s) again ∙ ap accepted (normals_count rules its.pieces its.well ∙ a.2)

  pub normal-long : length (normal rules s) ≡ length s
  normal-long =
      ap length (normal-cut s e its) ∙ normals_long rules its.pieces its.well ∙ ap length its.whole

  pub normal-records : records rules (normal rules s) ≡ records rules s
  normal-records =
      records-cut (normal rules s) accepted-again normalised ∙ normals_records rules its.pieces its.well ∙ sym (records-cut s e its)

  pub normal-own : normal rules (normal rules s) ≡ normal rules s
  normal-own =
      normal-cut (normal rules s) accepted-again normalised ∙ ap joined (normals_own rules its.pieces its.well) ∙ sym (normal-cut s e its)

  -- the records of a stream of bytes write its normal form
  pub normal-written : Bytes s → joined (map bytes_of (records rules s)) ≡ normal rules s
  normal-written b =
      rw (records-cut s e its, records_write rules its.pieces its.well (rw its.whole b)) (sym (normal-cut s e its))
