-- Whether an instruction's numbers are inside their limits.
use Rattle.std.specs.Prelude.{Bool, ◌&&◌}
use Rattle.limits.specs.Bounds.{instrument_ok, price_ok, volume_ok, distance_ok, ticket_ok, time_ok}
use Rattle.terms.specs.Protections.{optionally, protection_ok}
use Rattle.instructions.specs.declared.instruction.Opening.{Opening}
use Rattle.instructions.specs.declared.instruction.Closing.{Closing}
use Rattle.instructions.specs.declared.instruction.Placement.{Placement}
use Rattle.instructions.specs.declared.instruction.Modification.{Modification}
use Rattle.instructions.specs.declared.instruction.Instruction.{Instruction}
use Rattle.instructions.specs.declared.instruction.Instruction.TheVariants.{Open, Close, Place, Modify, Delete}

abbrev pub opening_ok : Opening → Bool
opening_ok o = instrument_ok o.instrument && (volume_ok o.volume && (price_ok o.price && (distance_ok o.deviation && protection_ok o.protection)))

abbrev pub closing_ok : Closing → Bool
closing_ok c = ticket_ok c.ticket && volume_ok c.volume

abbrev pub placement_ok : Placement → Bool
placement_ok p = instrument_ok p.instrument && (volume_ok p.volume && (price_ok p.level && (protection_ok p.protection && optionally time_ok p.expiry)))

abbrev pub modification_ok : Modification → Bool
modification_ok m = ticket_ok m.ticket && (optionally price_ok m.level && protection_ok m.protection)

abbrev pub inside : Instruction → Bool
inside (Open o) = opening_ok o
inside (Close c) = closing_ok c
inside (Place p) = placement_ok p
inside (Modify m) = modification_ok m
inside (Delete t) = ticket_ok t
