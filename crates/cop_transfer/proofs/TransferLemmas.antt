-- What came of a read or a write, by what came of its transfer.
use Rattle.std.proofs.Common.{◌≡◌, ℕ, List, sym, ◌∙◌, ap, Ok}
use Rattle.cop_frame.specs.declared.rates.Rate.{Rate}
use Rattle.cop_sdo.specs.declared.address.Address.{Address}
use Rattle.cop_sdo.specs.Client.{Calling}
use Rattle.cop_sdo.specs.Calls.{Started, uploading, downloading}
use Rattle.cop_live.specs.Log.{ByteStep, ClockStep}
use Rattle.cop_transfer.specs.declared.transferring.Transferred.{Transferred}
use Rattle.cop_transfer.specs.declared.transferring.Transferred.TheVariants.{Ended, Left, Failed}
use Rattle.cop_transfer.specs.declared.transferring.ReadValue.{ReadValue}
use Rattle.cop_transfer.specs.Transferring.{fresh, asking_of, read_limit, write_limit, IsTransfer, if_failed, TransferFails, IsRead, ReadFails, ReadStops, IsWritten, WriteFails}

module _ {P : Type 0} (reads writes : ByteStep P) (asks : ClockStep P) (fails : ByteStep P) (rate : Rate) (node : ℕ) (at : Address) (p q : P) (started : Started) where
  pub read_so : (client later : Calling) (value : ReadValue) → client ≡ fresh node → uploading client at ≡ Ok started → IsTransfer reads writes asks rate read_limit (asking_of started) p later q value.came
      → value.bytes.items ≡ later.asking.bytes → IsRead reads writes asks rate node at p q value
  read_so client later value is begins transfers takes = record { started = started; later = later; begins = ap (λ c. uploading c at) (sym is) ∙ begins; transfers = transfers; takes = takes }

  pub read_failed : (client : Calling) (came : Transferred) → client ≡ fresh node → uploading client at ≡ Ok started → if_failed came (TransferFails reads writes asks fails rate read_limit (asking_of started) p q)
      → if_failed came (ReadFails reads writes asks fails rate node at p q)
  read_failed client (Ended end) is begins h = tt
  read_failed client (Left reason) is begins h = tt
  read_failed client Failed is begins h = record { started = started; begins = ap (λ c. uploading c at) (sym is) ∙ begins; fails_so = h }

  pub read_stops : (client later : Calling) (came : Transferred) → client ≡ fresh node → uploading client at ≡ Ok started → IsTransfer reads writes asks rate read_limit (asking_of started) p later q came
      → if_failed came (TransferFails reads writes asks fails rate read_limit (asking_of started) p q) → ReadStops reads writes asks fails rate node at p q
  read_stops client later came is begins transfers failed = record { came = came; started = started; later = later; begins = ap (λ c. uploading c at) (sym is) ∙ begins; transfers = transfers; failed = failed }

  pub written_so : (bytes : List ℕ) (client later : Calling) (came : Transferred) → client ≡ fresh node → downloading client at bytes ≡ Ok started → IsTransfer reads writes asks rate write_limit (asking_of started) p later q came
      → IsWritten reads writes asks rate node at bytes p q came
  written_so bytes client later came is begins transfers = record { started = started; later = later; begins = ap (λ c. downloading c at bytes) (sym is) ∙ begins; transfers = transfers }

  pub write_failed : (bytes : List ℕ) (client : Calling) (came : Transferred) → client ≡ fresh node → downloading client at bytes ≡ Ok started → if_failed came (TransferFails reads writes asks fails rate write_limit (asking_of started) p q)
      → if_failed came (WriteFails reads writes asks fails rate node at bytes p q)
  write_failed bytes client (Ended end) is begins h = tt
  write_failed bytes client (Left reason) is begins h = tt
  write_failed bytes client Failed is begins h = record { started = started; begins = ap (λ c. downloading c at bytes) (sym is) ∙ begins; fails_so = h }
