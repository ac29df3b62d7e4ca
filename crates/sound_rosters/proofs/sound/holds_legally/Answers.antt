-- `sound_rosters::sound::holds_legally` meets its contract. Assumes nothing.
use borrow.Author.Tests.{eq-eqb}
use Rattle.sound_rosters.proofs.SoundLaws.{value-told}
use Rattle.sound_rosters.proofs.sound.holds_legally.Goals as goal

pub returns-then-value-eq-EMPTY : goal.returns-then-value-eq-EMPTY
returns-then-value-eq-EMPTY c = rw (eq-eqb _ _ c.if-value-eq-EMPTY.true)

pub returns : goal.returns
returns c = value-told _ _ _ _ c.if-value-eq-EMPTY.false _ c.value_is_legal.ensures
