-- The phases of the walk are the order rule in the paper's words: what each phase means of the kinds so far, and that a kind is
-- allowed in a phase exactly when it may stand after those kinds.
-- Assumes nothing.
use Rattle.std.specs.Prelude.{ℕ, ◌≡◌, refl, ◌↔◌, true, false, eqb}
use Rattle.std.proofs.Common.{sym, ap, ◌∙◌, true≢false}
use Rattle.std.proofs.lemmas.Bool.{false≢true, eqb-false}
use mathlib.Core.List.{List, [], ◌∷◌, ◌++◌, append-nil, nil≢cons, head-eq_of_cons-eq, tail-eq_of_cons-eq}
use Rattle.std.proofs.Math.Seq.{append_snoc}
use Rattle.mrd_format.specs.declared.kind.Kind.{Kind}
use Rattle.mrd_format.specs.declared.kind.Kind.TheVariants.{ConfigurationName, ConfigurationText, HeaderText, Close, Text, Acquisition, Image, Waveform}
use Rattle.mrd_cursor.specs.declared.cursor.Phase.{Phase}
use Rattle.mrd_cursor.specs.declared.cursor.Phase.TheVariants.{Start, Configured, Headed, Closed}
use Rattle.mrd_cursor.specs.OrderLaws.{allowed_open}
use Rattle.mrd_cursor.specs.Order.{is_start, is_before_header, is_headed, is_open, is_closed, allowed, next_phase}
use Rattle.mrd_cut.specs.Cut.{Role, configuration, header, measured, text, close, role_of, Lacks, May, InOrder, EndsInClose}
use Rattle.mrd_cut.specs.OrderRule.{phase_from, phase_after, AllowedFrom, Means, MayFollow}

-- a test that holds, beside a fact; a test that fails, beside what is absurd
both : {A : Type 0} → A → (true ≡ true) ↔ A
both a = (λ e. a, λ _. refl)

neither : {A : Type 0} → (A → ⊥) → (false ≡ true) ↔ A
neither f = (λ e. absurd (false≢true e), λ a. absurd (f a))

-- each test of a phase beside the order rule for the roles that it allows, of kinds of which the phase's meaning holds
module _ (ks : List Kind) where
  start-iff : (p : Phase) → Means p ks → (is_start p ≡ true) ↔ (Lacks close ks × May configuration ks)
  start-iff Start m = both (m.0, (m.3, m.1, m.2))
  start-iff Configured m = neither (λ o. m.3 o.1.0)
  start-iff Headed m = neither (λ o. m.1 o.1.1)
  start-iff Closed m = neither (λ o. m o.0)

  before-header-iff : (p : Phase) → Means p ks → (is_before_header p ≡ true) ↔ (Lacks close ks × May header ks)
  before-header-iff Start m = both (m.0, m.1)
  before-header-iff Configured m = both (m.0, m.1)
  before-header-iff Headed m = neither (λ o. m.1 o.1)
  before-header-iff Closed m = neither (λ o. m o.0)

  headed-iff : (p : Phase) → Means p ks → (is_headed p ≡ true) ↔ (Lacks close ks × May measured ks)
  headed-iff Start m = neither (λ o. o.1 m.1)
  headed-iff Configured m = neither (λ o. o.1 m.1)
  headed-iff Headed m = both m
  headed-iff Closed m = neither (λ o. m o.0)

  open-iff : (p : Phase) → Means p ks → (is_open p ≡ true) ↔ (Lacks close ks × Unit {0})
  open-iff Start m = both (m.0, tt)
  open-iff Configured m = both (m.0, tt)
  open-iff Headed m = both (m.0, tt)
  open-iff Closed m = neither (λ o. m o.0)

  -- a kind is allowed in a phase exactly when it may stand after kinds of which the phase's meaning holds
  pub allowed-iff-follows : (k : Kind) (p : Phase) → Means p ks → (allowed k p ≡ true) ↔ MayFollow ks k
  allowed-iff-follows ConfigurationName = start-iff
  allowed-iff-follows ConfigurationText = start-iff
  allowed-iff-follows HeaderText = before-header-iff
  allowed-iff-follows Close = open-iff
  allowed-iff-follows Text = open-iff
  allowed-iff-follows Acquisition = headed-iff
  allowed-iff-follows Image = headed-iff
  allowed-iff-follows (Waveform l) = headed-iff

-- one more kind of another role: a role that was lacked still is
still-lacks : (r : Role) (ks : List Kind) (k : Kind) → (role_of k ≡ r → ⊥) → Lacks r ks → Lacks r (ks ++ (k ∷ []))
still-lacks r [] k n l = (n, tt)
still-lacks r (j ∷ ks) k n l = (l.0, still-lacks r ks k n l.1)

-- a role that is lacked after one more kind was lacked before it, and is not that kind's
lacked : (r : Role) (ks : List Kind) (k : Kind) → Lacks r (ks ++ (k ∷ [])) → Lacks r ks × (role_of k ≡ r → ⊥)
lacked r [] k l = (tt, l.0)
lacked r (j ∷ ks) k l = let s = lacked r ks k l.1 in ((l.0, s.0), s.1)

-- the roles by number, to tell them apart
abbrev rank : Role → ℕ
rank configuration = 0
rank header = 1
rank measured = 2
rank text = 3
rank close = 4

apart : {a q r : Role} → a ≡ q → eqb (rank q) (rank r) ≡ false → a ≡ r → ⊥
apart {a} {q} {r} e t f = eqb-false (rank q) (rank r) t (ap rank (sym e ∙ f))

-- one more message, of kind k: what the phase after it means
module _ (ks : List Kind) (k : Kind) where
  still : {q : Role} (r : Role) → role_of k ≡ q → eqb (rank q) (rank r) ≡ false → Lacks r ks → Lacks r (ks ++ (k ∷ []))
  still r e t l = still-lacks r ks k (apart e t) l

  had : (r : Role) → (Lacks r ks → ⊥) → Lacks r (ks ++ (k ∷ [])) → ⊥
  had r n l = n (lacked r ks k l).0

  has : {r : Role} → role_of k ≡ r → Lacks r (ks ++ (k ∷ [])) → ⊥
  has {r} e l = (lacked r ks k l).1 e

  to-configured : role_of k ≡ configuration → Lacks close ks × May configuration ks → Means Configured (ks ++ (k ∷ []))
  to-configured e o = (still close e refl o.0, still header e refl o.1.1, still measured e refl o.1.2, has e)

  to-headed : role_of k ≡ header → Lacks close ks × May header ks → Means Headed (ks ++ (k ∷ []))
  to-headed e o = (still close e refl o.0, has e)

  stays-headed : {q : Role} → role_of k ≡ q → eqb (rank q) (rank close) ≡ false → Means Headed ks → Means Headed (ks ++ (k ∷ []))
  stays-headed e t m = (still close e t m.0, had header m.1)

  with-data : (p : Phase) → role_of k ≡ measured → is_headed p ≡ true → Means p ks → Means p (ks ++ (k ∷ []))
  with-data Start e h m = absurd (false≢true h)
  with-data Configured e h m = absurd (false≢true h)
  with-data Headed e h m = stays-headed e refl m
  with-data Closed e h m = absurd (false≢true h)

  with-text : (p : Phase) → role_of k ≡ text → Means p ks → Means p (ks ++ (k ∷ []))
  with-text Start e m =
      (still close e refl m.0, still header e refl m.1, still measured e refl m.2, still configuration e refl m.3)
  with-text Configured e m =
      (still close e refl m.0, still header e refl m.1, still measured e refl m.2, had configuration m.3)
  with-text Headed e m = stays-headed e refl m
  with-text Closed e m = had close m

-- an allowed step keeps what the phases mean
step_means : (k : Kind) (p : Phase) (ks : List Kind) → Means p ks → allowed k p ≡ true → Means (next_phase k p) (ks ++ (k ∷ []))
step_means ConfigurationName p ks m a = to-configured ks ConfigurationName refl ((start-iff ks p m).0 a)
step_means ConfigurationText p ks m a = to-configured ks ConfigurationText refl ((start-iff ks p m).0 a)
step_means HeaderText p ks m a = to-headed ks HeaderText refl ((before-header-iff ks p m).0 a)
step_means Close p ks m a = has ks Close refl
step_means Text p ks m a = with-text ks Text p refl m
step_means Acquisition p ks m a = with-data ks Acquisition p refl a m
step_means Image p ks m a = with-data ks Image p refl a m
step_means (Waveform l) p ks m a = with-data ks (Waveform l) p refl a m

-- so the phase that allowed kinds lead to means what it says of all kinds so far
phase_means : (p : Phase) (before ks : List Kind) → Means p before → AllowedFrom p ks → Means (phase_from p ks) (before ++ ks)
phase_means p before [] m a = rw append-nil m
phase_means p before (k ∷ ks) m a =
    rw (← append_snoc before k ks) (phase_means (next_phase k p) (before ++ (k ∷ [])) ks (step_means k p before m a.0) a.1)

-- each kind of ks stands in order after those before it, `before` among them
abbrev OrderAfter : List Kind → List Kind → Type 0
OrderAfter before ks = (mid : List Kind) (k : Kind) (rest : List Kind) → ks ≡ mid ++ (k ∷ rest) → MayFollow (before ++ mid) k

allowed-ordered : (p : Phase) (before ks : List Kind) → Means p before → AllowedFrom p ks → OrderAfter before ks
allowed-ordered p before [] m a [] k rest e = absurd (nil≢cons e)
allowed-ordered p before [] m a (x ∷ mid) k rest e = absurd (nil≢cons e)
allowed-ordered p before (j ∷ ks) m a [] k rest e =
    rw (append-nil, ← head-eq_of_cons-eq e) ((allowed-iff-follows before j p m).0 a.0)
allowed-ordered p before (j ∷ ks) m a (x ∷ mid) k rest e =
    rw (← head-eq_of_cons-eq e, ← append_snoc before j mid)
    (allowed-ordered (next_phase j p) (before ++ (j ∷ [])) ks (step_means j p before m a.0) a.1 mid k rest (tail-eq_of_cons-eq e))

ordered-allowed : (p : Phase) (before ks : List Kind) → Means p before → OrderAfter before ks → AllowedFrom p ks
ordered-allowed p before [] m o = tt
ordered-allowed p before (k ∷ ks) m o =
    let a : allowed k p ≡ true = (allowed-iff-follows before k p m).1 (rw append-nil at (o [] k ks refl)) in
    (a, ordered-allowed (next_phase k p) (before ++ (k ∷ [])) ks (step_means k p before m a) later)
  where
    later : OrderAfter (before ++ (k ∷ [])) ks
    later mid j rest e = rw append_snoc (o (k ∷ mid) j rest (ap (λ (l : List Kind). k ∷ l) e))

-- the kinds that the phases allow are those in order
pub in_order_iff : (ks : List Kind) → AllowedFrom Start ks ↔ InOrder ks
in_order_iff ks = (allowed-ordered Start [] ks (tt, tt, tt, tt), ordered-allowed Start [] ks (tt, tt, tt, tt))

-- the phase after kinds in order means what it says of them
pub phase_after_means : (ks : List Kind) → InOrder ks → Means (phase_after ks) ks
phase_after_means ks o = phase_means Start [] ks (tt, tt, tt, tt) ((in_order_iff ks).1 o)

-- after kinds in order, the phase allows a kind exactly when the order rule does
pub allowed_iff_in_order : (ks : List Kind) (k : Kind) → InOrder ks →
    (allowed k (phase_after ks) ≡ true) ↔ (Lacks close ks × May (role_of k) ks)
allowed_iff_in_order ks k o = allowed-iff-follows ks k (phase_after ks) (phase_after_means ks o)

-- only a close leads to the close's phase
only_close_closes : (k : Kind) (p : Phase) → is_closed p ≡ false → is_closed (next_phase k p) ≡ true → k ≡ Close
only_close_closes ConfigurationName p o e = absurd (false≢true e)
only_close_closes ConfigurationText p o e = absurd (false≢true e)
only_close_closes HeaderText p o e = absurd (false≢true e)
only_close_closes Close p o e = refl
only_close_closes Text p o e = absurd (true≢false (sym e ∙ o))
only_close_closes Acquisition p o e = absurd (true≢false (sym e ∙ o))
only_close_closes Image p o e = absurd (true≢false (sym e ∙ o))
only_close_closes (Waveform l) p o e = absurd (true≢false (sym e ∙ o))

closed-ends : (p : Phase) (ks : List Kind) → AllowedFrom p ks → is_closed p ≡ false → is_closed (phase_from p ks) ≡ true → EndsInClose ks
closed-ends p [] a o e = absurd (true≢false (sym e ∙ o))
closed-ends p (k ∷ []) a o e = ([], rw (only_close_closes k p o e))
closed-ends p (k ∷ (j ∷ ks)) a o e =
    let r = closed-ends (next_phase k p) (j ∷ ks) a.1 (allowed_open j (next_phase k p) a.1.0) e in
    (k ∷ r.0, ap (λ (l : List Kind). k ∷ l) r.1)

ends-closed : (p : Phase) (before : List Kind) → is_closed (phase_from p (before ++ (Close ∷ []))) ≡ true
ends-closed p [] = refl
ends-closed p (k ∷ ks) = ends-closed (next_phase k p) ks

-- kinds in order end in a close exactly when they lead to its phase
pub closed_iff_ends : (ks : List Kind) → InOrder ks → (is_closed (phase_after ks) ≡ true) ↔ EndsInClose ks
closed_iff_ends ks o = (closed-ends Start ks ((in_order_iff ks).1 o) refl, λ e. rw e.1 (ends-closed Start e.0))

-- kinds in order lack a close exactly when they do not lead to its phase
open_iff_lacks : (p : Phase) (ks : List Kind) → Means p ks → (is_closed p ≡ false) ↔ Lacks close ks
open_iff_lacks Start ks m = (λ e. m.0, λ l. refl)
open_iff_lacks Configured ks m = (λ e. m.0, λ l. refl)
open_iff_lacks Headed ks m = (λ e. m.0, λ l. refl)
open_iff_lacks Closed ks m = (λ e. absurd (true≢false e), λ l. absurd (m l))

pub open_iff_lacks_close : (ks : List Kind) → InOrder ks → (is_closed (phase_after ks) ≡ false) ↔ Lacks close ks
open_iff_lacks_close ks o = open_iff_lacks (phase_after ks) ks (phase_after_means ks o)
