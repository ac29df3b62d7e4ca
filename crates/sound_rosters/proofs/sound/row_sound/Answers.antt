-- `sound_rosters::sound::row_sound` meets its contract. Assumes nothing.
use mathlib.Core.Path.{ap}
use mathlib.Core.Bool.{not}
use native.Mathlib.Omega.{arith}
use Rattle.assignment_tables.specs.Tables.{the_board}
use Rattle.assignment_index.specs.Index.{the_roster}
use Rattle.assignment_index.proofs.Changes.{records_long}
use Rattle.sound_rosters.proofs.SoundLaws.{one_listed, holding_stops, key-stops, place_decides}
use Rattle.sound_rosters.proofs.sound.row_sound.Goals as goal

pub held_value-held-requires : goal.held_value-held-requires
held_value-held-requires c = (omega (arith, records_long c.args.tables.now.shape c.args.tables.now.marks.now c.args.tables.now.keys.now c.args.index.now.records.now c.args.index.now.members.now c.requires.indexed), c.requires.row_lt_rows)

pub holds_legally-requires : goal.holds_legally-requires
holds_legally-requires c = c.requires.indexed.marked

pub returns-then-not-holds_legally : goal.returns-then-not-holds_legally
returns-then-not-holds_legally c = holding_stops (the_board c.args.tables.now) (the_roster c.args.tables.now c.args.index.now) c.args.row _ c.held_value-held.ensures _ c.holds_legally.ensures (ap not c.if-not-holds_legally.true)

pub capacity_passes-requires : goal.capacity_passes-requires
capacity_passes-requires c = record { indexed = c.requires.indexed; listed = one_listed c.args.tables.now.shape.rows c.args.row _ c.requires.row_lt_rows }

pub returns-then-not-capacity_passes : goal.returns-then-not-capacity_passes
returns-then-not-capacity_passes c = key-stops (the_board c.args.tables.now) (the_roster c.args.tables.now c.args.index.now) c.args.row _ c.held_value-held.ensures _ c.holds_legally.ensures (ap not c.if-not-holds_legally.false) _ c.capacity_passes.ensures (ap not c.if-not-capacity_passes.true)

pub edges_pass-requires : goal.edges_pass-requires
edges_pass-requires c = record { indexed = c.requires.indexed; listed = one_listed c.args.tables.now.shape.rows c.args.row _ c.requires.row_lt_rows }

pub returns : goal.returns
returns c = place_decides (the_board c.args.tables.now) (the_roster c.args.tables.now c.args.index.now) c.args.row _ c.held_value-held.ensures _ c.holds_legally.ensures (ap not c.if-not-holds_legally.false) _ c.capacity_passes.ensures (ap not c.if-not-capacity_passes.false) _ c.edges_pass.ensures
