-- Files in memory. Source: own.
use Rattle.disk_log.specs.Logs.{Medium}
use Rattle.disk_log.specs.declared.memory.MemoryFiles.{MemoryFiles}

abbrev pub medium_of : MemoryFiles → Medium
medium_of files = record {
  sectors = files.sectors;
  image = files.image.items;
  log = files.log.items;
  safe = files.safe;
  settled = files.settled;
}
