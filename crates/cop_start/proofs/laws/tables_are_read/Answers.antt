use Rattle.std.proofs.Common.{arith}
use Rattle.cop_written.proofs.NodeLemmas.{nodes_are_read}
use Rattle.cop_written.proofs.PdoLemmas.{pdos_are_read}
use Rattle.cop_start.specs.Devices.{devices_of}
use Rattle.cop_start.specs.Frames.{frames_of}
use Rattle.cop_start.specs.Rows.{rows_of}
use Rattle.cop_start.proofs.DeviceLemmas.{sound_devices, count_devices}
use Rattle.cop_start.proofs.FrameLemmas.{sound_frames}
use Rattle.cop_start.proofs.RowLemmas.{sound_rows, few_rows}
use Rattle.cop_start.proofs.laws.tables_are_read.Goals as goal

pub returns-clause-nodes : goal.returns-clause-nodes
returns-clause-nodes c = λ devices sound some. nodes_are_read (devices_of devices) (frames_of devices) (omega (arith, count_devices devices, some)) (sound_devices devices sound) (sound_frames devices sound)

pub returns-clause-pdos : goal.returns-clause-pdos
returns-clause-pdos c = λ devices sound. pdos_are_read (rows_of devices) (few_rows devices) (sound_rows devices sound)
