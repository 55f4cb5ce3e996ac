-- The rows that leave memory alone meet the contract at this memory.
use Rattle.processor.specs.Instructions.{decode_of}
use mathlib.Core.Path.{sym, ◌∙◌}
use Rattle.emulator.proofs.run.execute.Goals as goal

pub returns-in-19-clause-status_after : goal.returns-in-19-clause-status_after
unfolding decode_of
returns-in-19-clause-status_after c = rw (sym c.opcode.ensures ∙ c.in-19.is) ((c.op_imm.ensures _).does _ _)

pub returns-in-51-clause-status_after : goal.returns-in-51-clause-status_after
unfolding decode_of
returns-in-51-clause-status_after c = rw (sym c.opcode.ensures ∙ c.in-51.is) ((c.op.ensures _).does _ _)

pub returns-in-99-clause-status_after : goal.returns-in-99-clause-status_after
unfolding decode_of
returns-in-99-clause-status_after c = rw (sym c.opcode.ensures ∙ c.in-99.is) ((c.branch-w.ensures _).does _ _)

pub returns-in-55-clause-status_after : goal.returns-in-55-clause-status_after
unfolding decode_of
returns-in-55-clause-status_after c = rw (sym c.opcode.ensures ∙ c.in-55.is) ((c.lui.ensures _).does _ _)

pub returns-in-23-clause-status_after : goal.returns-in-23-clause-status_after
unfolding decode_of
returns-in-23-clause-status_after c = rw (sym c.opcode.ensures ∙ c.in-23.is) ((c.auipc.ensures _).does _ _)

pub returns-in-111-clause-status_after : goal.returns-in-111-clause-status_after
unfolding decode_of
returns-in-111-clause-status_after c = rw (sym c.opcode.ensures ∙ c.in-111.is) ((c.jal.ensures _).does _ _)

pub returns-in-103-clause-status_after : goal.returns-in-103-clause-status_after
unfolding decode_of
returns-in-103-clause-status_after c = rw (sym c.opcode.ensures ∙ c.in-103.is) ((c.jalr.ensures _).does _ _)

pub returns-in-15-clause-status_after : goal.returns-in-15-clause-status_after
unfolding decode_of
returns-in-15-clause-status_after c = rw (sym c.opcode.ensures ∙ c.in-15.is) ((c.fence.ensures _ _).does _ _)
