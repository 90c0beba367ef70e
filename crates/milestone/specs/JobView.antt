-- A job of the program, without where it lies in memory.
use Rattle.milestone.specs.declared.job.Job.TheInside.{Inside}
use Rattle.milestone.specs.Job.{Job}

abbrev pub job_of : Inside → Job
job_of j = record { document = j.document; name = j.name; revision = j.revision; base = j.base; deltas = j.deltas.items; live = j.live; sources = j.sources }
