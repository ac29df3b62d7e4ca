-- `calendar_reading::events::read_event` meets its contract: what leads to the date is there, then a date, then the rest. Assumes nothing.
use mathlib.Core.Path.{refl, ◌∙◌}
use native.Mathlib.Omega.{arith}
use Rattle.basics.proofs.Options.{none_so}
use Rattle.calendar_reading.proofs.EventLaws.{lead-fits, rest-fits, front-within, front_long, without-lead, dated_within, without-date, next_within, without_day, day_in_range, without-rest, event_read}
use Rattle.calendar_reading.proofs.events.read_event.Goals as goal

pub write_lead-lead-requires : goal.write_lead-lead-requires
write_lead-lead-requires c = omega (arith, lead-fits c.args.stamp.now c.args.row c.requires.1 c.requires.2)

pub slice_bounds-text-end : goal.slice_bounds-text-end
slice_bounds-text-end c = front-within _ _ _ _ c.write_lead-lead.ensures (lead-fits c.args.stamp.now c.args.row c.requires.1 c.requires.2)

pub slice_bounds-after_text-end : goal.slice_bounds-after_text-end
slice_bounds-after_text-end c = front_long _ _ _ _ c.write_lead-lead.ensures (lead-fits c.args.stamp.now c.args.row c.requires.1 c.requires.2)

pub returns-in_err-dated : goal.returns-in_err-dated
returns-in_err-dated c = none_so _ _ c.from_residual.ensures (without-lead c.args.bytes.now _ c.args.at c.args.row c.requires.1 c.requires.2 _ _ _ refl c.write_lead-lead.ensures _ c.after_text.ensures c.in_err-dated.was)

pub copy_octets-requires : goal.copy_octets-requires
copy_octets-requires c = dated_within c.args.bytes.now _ c.args.at c.args.row c.requires.1 c.requires.2 _ _ _ refl c.write_lead-lead.ensures _ c.after_text.ensures _ c.in_ok-dated.was

pub returns-in_err-behind : goal.returns-in_err-behind
returns-in_err-behind c = none_so _ _ c.from_residual-in_err-behind.ensures (without-date c.args.bytes.now _ c.args.at c.args.row c.requires.1 c.requires.2 _ _ _ refl c.write_lead-lead.ensures _ c.after_text.ensures _ c.in_ok-dated.was _ _ c.copy_octets.ensures c.in_err-behind.was)

pub returns-in_err-day : goal.returns-in_err-day
returns-in_err-day c = none_so _ _ c.from_residual-in_err-day.ensures (without_day c.args.bytes.now _ c.args.at c.args.row c.requires.1 c.requires.2 _ _ _ refl c.write_lead-lead.ensures _ c.after_text.ensures _ c.in_ok-dated.was _ _ c.copy_octets.ensures _ c.in_ok-behind.was _ c.day_of.ensures c.in_err-day.was)

pub write_rest-rest-requires : goal.write_rest-rest-requires
write_rest-rest-requires c = (omega (arith, rest-fits c.args.row c.in_ok-day.day c.requires.2, c.write_lead-lead.auto.out), day_in_range c.args.bytes.now _ c.args.at c.args.row c.requires.1 c.requires.2 _ _ _ refl c.write_lead-lead.ensures _ c.after_text.ensures _ c.in_ok-dated.was _ _ c.copy_octets.ensures _ c.in_ok-behind.was _ c.day_of.ensures _ c.in_ok-day.was)

pub slice_bounds-text-end-2 : goal.slice_bounds-text-end-2
slice_bounds-text-end-2 c = front-within _ _ _ _ c.write_rest-rest.ensures (omega (arith, rest-fits c.args.row c.in_ok-day.day c.requires.2, c.write_lead-lead.auto.out))

pub slice_bounds-after_text-end-2 : goal.slice_bounds-after_text-end-2
slice_bounds-after_text-end-2 c = front_long _ _ _ _ c.write_rest-rest.ensures (omega (arith, rest-fits c.args.row c.in_ok-day.day c.requires.2, c.write_lead-lead.auto.out))

pub after_text-requires-2 : goal.after_text-requires-2
after_text-requires-2 c = next_within c.args.bytes.now _ c.args.at c.args.row c.requires.1 c.requires.2 _ _ _ refl c.write_lead-lead.ensures _ c.after_text.ensures _ c.in_ok-dated.was _ _ c.copy_octets.ensures _ c.in_ok-behind.was

pub returns-in_err-next : goal.returns-in_err-next
returns-in_err-next c = none_so _ _ c.from_residual-in_err-next.ensures (without-rest c.args.bytes.now _ c.args.at c.args.row c.requires.1 c.requires.2 _ _ _ refl c.write_lead-lead.ensures _ c.after_text.ensures _ c.in_ok-dated.was _ _ c.copy_octets.ensures _ c.in_ok-behind.was _ c.day_of.ensures _ c.in_ok-day.was _ _ (c.write_lead-lead.auto.out ∙ refl) c.write_rest-rest.ensures _ c.after_text-2.ensures c.in_err-next.was)

pub returns : goal.returns
returns c = event_read c.args.bytes.now _ c.args.at c.args.row c.requires.1 c.requires.2 _ _ _ refl c.write_lead-lead.ensures _ c.after_text.ensures _ c.in_ok-dated.was _ _ c.copy_octets.ensures _ c.in_ok-behind.was _ c.day_of.ensures _ c.in_ok-day.was _ _ (c.write_lead-lead.auto.out ∙ refl) c.write_rest-rest.ensures _ c.after_text-2.ensures _ c.in_ok-next.was
