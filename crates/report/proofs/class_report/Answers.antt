-- What is printed of this text is the definition.
use Rattle.report.specs.ClassReport.{class_report_of}
use Rattle.report.proofs.class_report.Goals as goal

pub returns-clause-value : goal.returns-clause-value
unfolding class_report_of
returns-clause-value c = c.printed.ensures.value

pub returns-clause-out_after : goal.returns-clause-out_after
unfolding class_report_of
returns-clause-out_after c = c.printed.ensures.out_after

pub returns-clause-bytes_len_bound : goal.returns-clause-bytes_len_bound
unfolding class_report_of
returns-clause-bytes_len_bound c = c.printed.ensures.bytes_len_bound
