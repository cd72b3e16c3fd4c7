use Rattle.std.proofs.Common.{◌≡◌, ◌≤◌, ◌++◌, length, map, arith}
use Rattle.cop_rta.specs.Entries.{entry_of}
use Rattle.cop_net.specs.Fixed.{fixed_streams}
use Rattle.cop_net.specs.Pdos.{ArePdos}
use Rattle.cop_net.proofs.PdoLemmas.{pdos_found}
use Rattle.cop_net.proofs.ApartLemmas.{one_set_all, has_no_one, room_left}
use Rattle.cop_net.proofs.making.streams_of.Goals as goal

pub put_fixed-requires : goal.put_fixed-requires
put_fixed-requires c =
    let s = pdos_found c.args.devices.now.devices _ c.args.rows.now c.in_ok-found.found c.in_ok-found.ensures in
    let pdos : ArePdos (map entry_of c.found.inside.set) = rw (← c.found.view_is) at s.0 in
    let few : length c.in_ok-found.found.streams ≤ 512 = omega (arith, s.1, c.requires.count) in
    let count : length (map entry_of c.found.inside.set) ≤ 512 = rw (← c.found.view_is) at few in
    one_set_all (map entry_of c.found.inside.set) c.args.frames.now pdos count c.requires.timed

pub through-requires-clause-free : goal.through-requires-clause-free
through-requires-clause-free c =
    let s = pdos_found c.args.devices.now.devices _ c.args.rows.now c.in_ok-found.found c.in_ok-found.ensures in
    let pdos : ArePdos (map entry_of c.found.inside.set) = rw (← c.found.view_is) at s.0 in
    let told = c.in_ok-put_fixed.ensures in
    let e : map entry_of c.put_fixed.new.set ≡ map entry_of c.found.inside.set ++ fixed_streams c.args.frames.now = cc in
    has_no_one c.put_fixed.new.set (map entry_of c.found.inside.set) c.args.frames.now e pdos c.requires.timed

pub through-requires-clause-room : goal.through-requires-clause-room
through-requires-clause-room c =
    let s = pdos_found c.args.devices.now.devices _ c.args.rows.now c.in_ok-found.found c.in_ok-found.ensures in
    let few : length c.in_ok-found.found.streams ≤ 512 = omega (arith, s.1, c.requires.count) in
    let count : length (map entry_of c.found.inside.set) ≤ 512 = rw (← c.found.view_is) at few in
    let told = c.in_ok-put_fixed.ensures in
    let e : map entry_of c.put_fixed.new.set ≡ map entry_of c.found.inside.set ++ fixed_streams c.args.frames.now = cc in
    room_left c.put_fixed.new.set (map entry_of c.found.inside.set) c.args.frames.now e count c.requires.timed
