-- `sound_rosters::entry::roster_sound` meets its contract. Assumes nothing.
use mathlib.Core.Path.{◌∙◌, sym}
use mathlib.Core.Bool.{true}
use Rattle.refusals.proofs.AnswerLaws.{passed_on}
use Rattle.rules.specs.Sound.{sound_test}
use Rattle.assignment_state.proofs.AdmitLaws.{ready}
use Rattle.sound_rosters.specs.SoundVerdict.{sound_verdict}
use Rattle.sound_rosters.proofs.entry.roster_sound.Goals as goal

pub returns-in_err-admit : goal.returns-in_err-admit
unfolding sound_verdict
returns-in_err-admit c = passed_on _ _ c.from_residual.ensures ∙ (rw (← c.admit.ensures, c.in_err-admit.was))

pub sound_test-requires : goal.sound_test-requires
sound_test-requires c = (ready c.args.tables.now.shape c.args.tables.now.marks.now c.args.tables.now.keys.now c.args.tables.now.ranks.now c.args.index.now.records.now c.args.index.now.members.now true (sym c.admit.ensures ∙ c.in_ok-admit.was)).0.index

pub returns : goal.returns
unfolding sound_verdict
returns c = rw (← c.admit.ensures, c.in_ok-admit.was, c.sound_test.ensures)
