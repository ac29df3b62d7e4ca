-- `calendar_reading::octets::fold_at` meets its contract. Assumes nothing.
use mathlib.Core.Path.{sym}
use Rattle.calendar_format.specs.Folding.{is_blank}
use Rattle.calendar_reading.proofs.OctetLaws.{no_fold_at_the_end, fold_is}
use Rattle.calendar_reading.proofs.octets.fold_at.Goals as goal

pub returns-then-bytes-at-lt3 : goal.returns-then-bytes-at-lt3
returns-then-bytes-at-lt3 c = no_fold_at_the_end _ _ c.requires c.if-bytes-at-lt3.true

pub returns : goal.returns
unfolding is_blank
returns c = sym (fold_is c.args.bytes.now c.args.at c.if-bytes-at-lt3.false)
