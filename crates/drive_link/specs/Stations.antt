-- What a station keeps between the commands: the link that was opened or told last, none where opening was refused, and the
-- pool, in which its ASDUs wait.
use Rattle.std.specs.Prelude.{ℕ, List, Option}
use Rattle.link_state.specs.declared.Link.{Link}
use Rattle.drive_link.specs.declared.Station.{Station}

abbrev pub station_link : Station → Option Link
station_link station = station.link

abbrev pub station_pool : Station → List ℕ
station_pool station = station.pool
