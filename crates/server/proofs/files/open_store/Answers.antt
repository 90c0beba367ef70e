use Rattle.server.proofs.files.open_store.Goals as goal

-- it was opened on the device that was just opened
pub returns-in-Ok-clause-from : goal.returns-in-Ok-clause-from
returns-in-Ok-clause-from g c = (
  c.in_ok-disk.disk,
  record { new = c.in_ok-disk.ensures.untouched; opens = c.in-Ok.ensures.opened; device = c.in-Ok.ensures.device },
)
