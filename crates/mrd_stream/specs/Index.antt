-- 'The index' of a stream, as a file and as columns.
-- Assumes nothing.
use Rattle.std.specs.Prelude.{ℕ, List, [], ◌∷◌, ◌++◌, map, length}
use Rattle.mrd_numbers.specs.Little.{to_bytes}
use Rattle.mrd_tagged.specs.Tagged.{tagged}
use Rattle.mrd_format.specs.declared.kind.Kind.{Kind}
use Rattle.mrd_format.specs.declared.rules.Rules.{Rules}
use Rattle.mrd_format.specs.Kinds.{id_of}
use Rattle.mrd_format.specs.Message.{fixed_part}
use Rattle.mrd_format.specs.Content.{counter_of}
use Rattle.mrd_stream.specs.Walk.{Trace, message, done, trace}

-- an entry: 'start (u64), id (u16), scan counter (u32; 0 where the kind has none)'
pub record Entry : Type 0 where
  pub start : ℕ
  pub id : ℕ
  pub counter : ℕ

-- of the message m of kind k that starts there
abbrev pub entry_of : ℕ → Kind → List ℕ → Entry
entry_of at k m = record { start = at; id = id_of k; counter = counter_of k (fixed_part k m) }

abbrev pub entries_of : Trace → List Entry
entries_of (message c k m r) = entry_of c.start k m ∷ entries_of r
entries_of (done v) = []

-- an entry for each record, in order
unfoldable pub entries : Rules → List ℕ → List Entry
entries rules s = entries_of (trace rules s)

-- 'Tag 1: edition 1 (u16). Tag 2: stream length (u64)'
abbrev pub front_field : ℕ → List ℕ
front_field size = tagged 1 (to_bytes 2 1) ++ tagged 2 (to_bytes 8 size)

-- 'Then tag 3 for each record'
abbrev pub entry_field : Entry → List ℕ
entry_field e = tagged 3 (to_bytes 8 e.start ++ (to_bytes 2 e.id ++ to_bytes 4 e.counter))

abbrev pub entry_fields : List Entry → List ℕ
entry_fields [] = []
entry_fields (e ∷ es) = entry_field e ++ entry_fields es

-- 'Last, tag 4: record count (u32)'
abbrev pub end_field : ℕ → List ℕ
end_field n = tagged 4 (to_bytes 4 n)

unfoldable pub index : Rules → List ℕ → List ℕ
index rules s = front_field (length s) ++ (entry_fields (entries rules s) ++ end_field (length (entries rules s)))

-- 'in memory the same index is three lent columns, start, id and counter'
unfoldable pub start_column : Rules → List ℕ → List ℕ
start_column rules s = map (λ (e : Entry). e.start) (entries rules s)

unfoldable pub id_column : Rules → List ℕ → List ℕ
id_column rules s = map (λ (e : Entry). e.id) (entries rules s)

unfoldable pub counter_column : Rules → List ℕ → List ℕ
counter_column rules s = map (λ (e : Entry). e.counter) (entries rules s)
