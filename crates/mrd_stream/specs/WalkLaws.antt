-- The laws of the walk that serve every walker: what it meets where no bytes are left, at a fault, and at a whole message.
-- Assumes nothing.
use Rattle.std.specs.Prelude.{ℕ, zero, suc, ◌<◌, ◌≡◌, refl, List, [], ◌∷◌, take, drop}
use Rattle.std.proofs.Common.{not-suc-le-zero, ap}
use Rattle.mrd_format.specs.declared.kind.Kind.{Kind}
use Rattle.mrd_format.specs.declared.rules.Rules.{Rules}
use Rattle.mrd_cursor.specs.declared.cursor.Cursor.{Cursor}
use Rattle.mrd_judge.specs.Judge.{faulty, whole, judge}
use Rattle.mrd_stream.specs.Walk.{ended, message, done, walk}
use Rattle.mrd_cursor.specs.Cursors.{after}
use Rattle.mrd_logic.specs.Answer.{refused}

-- bytes to pass are bytes dropped
pub walk_skip : (rules : Rules) (t : List ℕ) (k : ℕ) (c : Cursor) → walk rules t k c ≡ walk rules (drop k t) 0 c
unfolding walk
walk_skip rules [] zero c = refl
walk_skip rules [] (suc k) c = refl
walk_skip rules (b ∷ t) zero c = refl
walk_skip rules (b ∷ t) (suc k) c = walk_skip rules t k c

pub walk_end : (rules : Rules) (c : Cursor) → walk rules [] 0 c ≡ done (ended c)
unfolding walk
walk_end rules c = refl

pub walk-fault : (rules : Rules) (b : ℕ) (t : List ℕ) (c : Cursor) {f : ℕ} → judge rules c (b ∷ t) ≡ faulty f →
    walk rules (b ∷ t) 0 c ≡ done (refused f c.number c.start)
unfolding walk
walk-fault rules b t c e = rw (e, walk)

pub walk-next : (rules : Rules) (b : ℕ) (t : List ℕ) (c : Cursor) {k : Kind} {z : ℕ} → judge rules c (b ∷ t) ≡ whole k z → 0 < z →
    walk rules (b ∷ t) 0 c ≡ message c k (take z (b ∷ t)) (walk rules (drop z (b ∷ t)) 0 (after c k z))
unfolding walk
walk-next rules b t c {k} {z = zero} e h = absurd (not-suc-le-zero h)
walk-next rules b t c {k} {z = suc z} e h = rw (e, walk) (ap (message c k (b ∷ take z t)) (walk_skip rules t z (after c k (suc z))))
