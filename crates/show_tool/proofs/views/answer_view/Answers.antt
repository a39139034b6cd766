use Rattle.show_tool.proofs.views.answer_view.Goals as goal

pub show_trace-requires : goal.show_trace-requires
show_trace-requires g c = (rw c.in-Trace.is at c.requires).0
