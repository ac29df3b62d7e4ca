use mathlib.Core.Path.{◌∙◌}
use Rattle.basics.proofs.Loops.{turns, turn_fails, turn_end}
use Rattle.overlay_reading.specs.Reading.{entry_reads}
use Rattle.overlay_reading.proofs.ReadLaws.{whole}
use Rattle.overlay_reading.proofs.list_reads.Goals as goal

pub loop-i-init : goal.loop-i-init
loop-i-init c = search turns

pub entry_reads-requires : goal.entry_reads-requires
entry_reads-requires c = search turns

pub returns-then-not-entry_reads : goal.returns-then-not-entry_reads
returns-then-not-entry_reads c = λ k h. let a = c.args in let e = c.requires.list_rows_len in turn_fails _ c.loop-i.i (entry_reads a.last a.tables.now.shape a.tables.now.marks.now a.list_rows.now a.list_values.now) _ c.loop-i-test.true c.entry_reads.ensures (c.if-not-entry_reads.true) ∙ whole a.last a.tables.now.shape a.tables.now.marks.now a.list_rows.now a.list_values.now e k h

pub loop-i-preserved : goal.loop-i-preserved
loop-i-preserved c = search turns

pub returns : goal.returns
returns c = λ k h. let a = c.args in let e = c.requires.list_rows_len in turn_end _ c.loop-i.i (entry_reads a.last a.tables.now.shape a.tables.now.marks.now a.list_rows.now a.list_values.now) c.loop-i.auto.i-end c.loop-i-test.false c.loop-i.invariant ∙ whole a.last a.tables.now.shape a.tables.now.marks.now a.list_rows.now a.list_values.now e k h
