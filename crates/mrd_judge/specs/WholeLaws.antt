-- What judging finds, said of the bytes: a whole message passes every check, which is to be well formed, in order and
-- within the count; a refusal's number is that of the first check that refuses.
-- Assumes nothing.
use Rattle.std.specs.Prelude.{ℕ, ◌+◌, ◌≤◌, ◌<◌, ◌≡◌, refl, true, List, ◌++◌, take, Option, Some, None}
use Rattle.std.proofs.Common.{arith, sym, ap, ◌∙◌, true≢false, length-append, length-take-le}
use Rattle.std.proofs.Math.Bool.{false, not}
use Rattle.std.proofs.Math.ListN.{length}
use Rattle.std.proofs.Math.Seq.{take-append_seam}
use Rattle.std.proofs.Math.Dec.{eqb}
use borrow.Author.Tests.{leb-false, ltb-false, not-false, lt-leb, le-ltb, ne_eqb}
use Rattle.mrd_format.specs.declared.kind.Kind.{Kind}
use Rattle.mrd_format.specs.declared.rules.Rules.{Rules}
use Rattle.mrd_format.specs.declared.rules.Profile.{Profile}
use Rattle.mrd_format.specs.Kinds.{fixed_size, identified}
use Rattle.mrd_logic.specs.Checks.{first, Passed, FirstFault}
use Rattle.mrd_format.specs.Message.{limit, id_at, fixed_part, own_checks, size_of, message_at}
use Rattle.mrd_format.specs.Content.{record_of}
use Rattle.mrd_format.specs.Profiles.{texts_in, Encoded, encoded}
use Rattle.mrd_format.specs.ProfileLaws.{encoded-exactly}
use Rattle.mrd_format.specs.WellFormed.{WellFormed}
use Rattle.mrd_format.specs.MessageLaws.{size-least, id-take, fixed-take, well-known, well-fixed, well-size}
use Rattle.mrd_cursor.specs.declared.cursor.Cursor.{Cursor}
use Rattle.mrd_cursor.specs.Order.{allowed}
use Rattle.mrd_cursor.specs.Cursors.{max_messages}
use Rattle.mrd_judge.specs.Stages.{front_checks, id_checks, fixed_checks, size_checks, text_checks, checks_as}
use Rattle.mrd_judge.specs.Judge.{Judged, faulty, whole, passes, refused_by, sorted, judge_as, judge}
use Rattle.mrd_logic.specs.Every.{Every, every_split, every_append}
use Rattle.mrd_cursor.specs.OrderLaws.{allowed_open}
use Rattle.mrd_logic.specs.CheckLaws.{numbered, first-passed, passed_first, first-fault, fault-first, numbered-append, fault-not-zero, unless-refused, unless-passed, unless-fault}
use Rattle.mrd_format.specs.OwnCheckLaws.{own-numbered}
use Rattle.mrd_format.specs.IdLaws.{known_row}
use Rattle.mrd_judge.specs.declared.sort.Sort.{Sort}
use Rattle.mrd_judge.specs.Sorts.{sort_of, kind_in, kind_of_sort}

-- the message at the front of t, of kind k and size z, passes every check where the walk is at c
pub record WholeAt (rules : Rules) (c : Cursor) (t : List ℕ) (k : Kind) (z : ℕ) : Type 0 where
  pub counted : c.number < max_messages
  pub known : identified rules (id_at t) ≡ Some k
  pub ordered : allowed k c.phase ≡ true
  pub sound : first (own_checks k (fixed_part k t)) ≡ 0
  pub size : size_of k (fixed_part k t) ≡ z
  pub small : z ≤ limit
  pub fits : z ≤ length t
  pub encoded : Encoded rules.profile (texts_in (record_of k (take z t)).parts)

-- no check has the number 0
pub all-numbered : (p : Profile) (i : Option Kind) (c : Cursor) (t : List ℕ) → numbered (checks_as p i c t) ≡ true
unfolding checks_as front_checks id_checks fixed_checks size_checks text_checks
all-numbered p None c t = refl
all-numbered p (Some k) c t =
    numbered-append (own_checks k (fixed_part k t)) (size_checks (size_of k (fixed_part k t)) t ++ text_checks p k (message_at k t))
    (own-numbered k (fixed_part k t)) refl

-- every check of a message of kind k passed exactly when the facts of WholeAt hold
module _ (rules : Rules) (c : Cursor) (t : List ℕ) (k : Kind) where
  passed-facts : identified rules (id_at t) ≡ Some k → Every Passed (checks_as rules.profile (Some k) c t) → WholeAt rules c t k (size_of k (fixed_part k t))
  unfolding checks_as front_checks id_checks fixed_checks size_checks text_checks
  passed-facts e p =
      let own = own_checks k (fixed_part k t) in
      let z = size_of k (fixed_part k t) in
      let late = every_split Passed own (size_checks z t ++ text_checks rules.profile k (take z t)) p.1.1.1.1.1 in
      record {
        counted = leb-false max_messages c.number p.1.0;
        known = e;
        ordered = not-false (allowed k c.phase) p.1.1.1.0;
        sound = passed_first own late.0;
        size = refl;
        small = ltb-false limit z late.1.0;
        fits = ltb-false (length t) z late.1.1.0;
        encoded = (encoded-exactly rules.profile _).0 (not-false _ late.1.1.1.0);
      }

  facts-passed : {z : ℕ} → WholeAt rules c t k z → Every Passed (checks_as rules.profile (Some k) c t)
  unfolding checks_as front_checks id_checks fixed_checks size_checks text_checks
  facts-passed {z} w =
      let own = own_checks k (fixed_part k t) in
      let least : 2 + fixed_size k ≤ length t = omega (arith, size-least k (fixed_part k t)) in
      let small : size_of k (fixed_part k t) ≤ limit = rw w.size w.small in
      let fits : size_of k (fixed_part k t) ≤ length t = rw w.size w.fits in
      let passed : Every Passed own = first-passed own (own-numbered k (fixed_part k t)) w.sound in
      let texts : not (encoded rules.profile (texts_in (record_of k (message_at k t)).parts)) ≡ false =
      rw w.size (ap not ((encoded-exactly rules.profile _).1 w.encoded)) in
      let late = every_append Passed own (size_checks (size_of k (fixed_part k t)) t ++ text_checks rules.profile k (message_at k t)) passed
      (le-ltb _ _ small, (le-ltb _ _ fits, (texts, tt))) in
      let two : eqb (length t) 1 ≡ false = ne_eqb (length t) 1 (λ e. omega arith) in
      (allowed_open k c.phase w.ordered, (lt-leb _ _ w.counted, (two, (ap not w.ordered, (le-ltb _ _ least, late)))))

-- an id that no kind has is always refused
unknown_refused : (p : Profile) (c : Cursor) (t : List ℕ) → first (checks_as p None c t) ≡ 0 → ⊥
unfolding checks_as front_checks id_checks
unknown_refused p c t e = true≢false (first-passed (checks_as p None c t) refl e).1.1.1.0

-- a judgement is one or the other
pub not-both : {f : ℕ} {k : Kind} {z : ℕ} → faulty f ≡ whole k z → ⊥
not-both e = let z : ◌≡◌ {A = ℕ} 0 1 = cc in omega arith

-- what is judged whole passes every check
pub judge-whole : (rules : Rules) (c : Cursor) (t : List ℕ) {k : Kind} {z : ℕ} → judge rules c t ≡ whole k z → WholeAt rules c t k z
unfolding judge judge_as
judge-whole rules c t {k} {z} e = by-id (identified rules (id_at t)) refl e
  where
    by-id : (i : Option Kind) → identified rules (id_at t) ≡ i → judge_as rules.profile i c t ≡ whole k z → WholeAt rules c t k z
    by-id None n e = absurd (not-both e)
    by-id (Some j) n e =
        let u = unless-passed (first (checks_as rules.profile (Some j) c t)) faulty (whole j (size_of j (fixed_part j t))) (λ f. not-both) e in
        let kind : j ≡ k = cc u.1 in
        let size : size_of j (fixed_part j t) ≡ z = cc u.1 in
        rw (← kind, ← size) (passed-facts rules c t j n (first-passed (checks_as rules.profile (Some j) c t) (all-numbered rules.profile (Some j) c t) u.0))

-- what is found whole is of the kind that the rules make of its sort
pub found-whole : (rules : Rules) (c : Cursor) (t : List ℕ) {o : Sort} {z : ℕ} → passes o z ≡ sorted (judge rules c t) → judge rules c t ≡ whole (kind_in rules o) z
found-whole rules c t {o} {z} e = by (judge rules c t) refl e
  where
    by : (j : Judged) → judge rules c t ≡ j → passes o z ≡ sorted j → j ≡ whole (kind_in rules o) z
    by (faulty f) q e = let n : ◌≡◌ {A = ℕ} 0 1 = cc in absurd (omega arith)
    by (whole k y) q e =
        let sort : o ≡ sort_of k = cc in
        let size : y ≡ z = cc in
        let row = (known_row rules (id_at t) (judge-whole rules c t q).known).0 in
        ap (whole k) size ∙ ap (λ (j : Kind). whole j z) (sym (ap (kind_in rules) sort ∙ kind_of_sort rules k row))

pub found-faulty : (rules : Rules) (c : Cursor) (t : List ℕ) {f : ℕ} → refused_by f ≡ sorted (judge rules c t) → judge rules c t ≡ faulty f
found-faulty rules c t {f} e = by (judge rules c t) e
  where
    by : (j : Judged) → refused_by f ≡ sorted j → j ≡ faulty f
    by (faulty n) e = cc
    by (whole k y) e = let n : ◌≡◌ {A = ℕ} 0 1 = cc in absurd (omega arith)

-- what passes every check is judged whole
pub whole-judge : {rules : Rules} (c : Cursor) (t : List ℕ) {k : Kind} {z : ℕ} → WholeAt rules c t k z → judge rules c t ≡ whole k z
unfolding judge judge_as
whole-judge {rules} c t {k} {z} w = rw (w.known, passed_first _ (facts-passed rules c t k w), w.size)

-- what is judged faulty is refused by the first check that refuses
pub judge-faulty : (rules : Rules) (c : Cursor) (t : List ℕ) {f : ℕ} → judge rules c t ≡ faulty f → FirstFault f (checks_as rules.profile (identified rules (id_at t)) c t)
unfolding judge judge_as
judge-faulty rules c t {f} e = by-id (identified rules (id_at t)) e
  where
    by-id : (i : Option Kind) → judge_as rules.profile i c t ≡ faulty f → FirstFault f (checks_as rules.profile i c t)
    by-id None e =
        let n : first (checks_as rules.profile None c t) ≡ f = cc in
        first-fault (checks_as rules.profile None c t) f n (λ z. unknown_refused rules.profile c t (n ∙ z))
    by-id (Some k) e =
        let u = unless-fault (first (checks_as rules.profile (Some k) c t)) faulty (whole k (size_of k (fixed_part k t))) (λ w. not-both (sym w)) e in
        let n : first (checks_as rules.profile (Some k) c t) ≡ f = cc u.0 in
        first-fault (checks_as rules.profile (Some k) c t) f n (λ z. u.1 (n ∙ z))

-- where a check refuses, the message is judged faulty by the first that does
pub faulty-judge : (rules : Rules) (c : Cursor) (t : List ℕ) {f : ℕ} → FirstFault f (checks_as rules.profile (identified rules (id_at t)) c t) → judge rules c t ≡ faulty f
unfolding judge judge_as
faulty-judge rules c t {f} r = by-id (identified rules (id_at t)) r
  where
    by-id : (i : Option Kind) → FirstFault f (checks_as rules.profile i c t) → judge_as rules.profile i c t ≡ faulty f
    by-id None r = ap faulty (fault-first (checks_as rules.profile None c t) r)
    by-id (Some k) r =
        let n = fault-not-zero (checks_as rules.profile (Some k) c t) (all-numbered rules.profile (Some k) c t) r in
        rw (fault-first (checks_as rules.profile (Some k) c t) r) (unless-refused f faulty (whole k (size_of k (fixed_part k t))) n)

-- the bytes of a whole message are a well-formed message
abbrev pub well_formed : {rules : Rules} (c : Cursor) (t : List ℕ) {k : Kind} {z : ℕ} → WholeAt rules c t k z → WellFormed rules (take z t)
well_formed c t {k} {z} w =
    let least : 2 + fixed_size k ≤ z = omega (arith, size-least k (fixed_part k t)) in
    let same : fixed_part k (take z t) ≡ fixed_part k t = fixed-take k z t least w.fits in
    let size : size_of k (fixed_part k (take z t)) ≡ z = rw same w.size in
    record {
      kind = k;
      known = rw (id-take k z t least w.fits) w.known;
      sound = rw same w.sound;
      small = rw size w.small;
      whole = size ∙ sym (length-take-le z t w.fits);
      encoded = w.encoded;
    }

-- a well-formed message that the order and the count allow is whole, whatever follows it
pub well-whole : {rules : Rules} (c : Cursor) (m rest : List ℕ) (w : WellFormed rules m) → allowed w.kind c.phase ≡ true → c.number < max_messages →
    WholeAt rules c (m ++ rest) w.kind (length m)
well-whole c m rest w a n =
    record {
      counted = n;
      known = well-known m rest w;
      ordered = a;
      sound = rw (well-fixed m rest w) w.sound;
      size = well-size m rest w;
      small = rw (← w.whole) w.small;
      fits = simp length-append (omega arith);
      encoded = rw take-append_seam w.encoded;
    }

-- so it is judged whole, with its kind and length
pub well-judge : {rules : Rules} (c : Cursor) (m rest : List ℕ) (w : WellFormed rules m) → allowed w.kind c.phase ≡ true → c.number < max_messages →
    judge rules c (m ++ rest) ≡ whole w.kind (length m)
well-judge c m rest w a n = whole-judge c (m ++ rest) (well-whole c m rest w a n)
