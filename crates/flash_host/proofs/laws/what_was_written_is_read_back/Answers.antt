use Rattle.flash_host.proofs.ReadingBack.{is_read_back}
use Rattle.flash_host.proofs.laws.what_was_written_is_read_back.Goals as goal

pub returns : goal.returns
returns c = is_read_back c.write_replaces_sectors.ensures
