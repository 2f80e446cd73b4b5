-- The regions of an input's loads.
use Rattle.std.specs.Prelude.{◌==◌, if◌then◌else◌}
use Rattle.ap_image.specs.declared.plan.Region.{Region}
use Rattle.ap_check.specs.declared.load.Load.{Load}

abbrev pub region_of : Load → Region
region_of p = record { start = p.vaddr; span = p.memsz; backed = p.filesz; at = if p.filesz == 0 then 0 else p.offset; perms = p.perms }
