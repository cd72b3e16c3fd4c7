use Rattle.std.proofs.Common.{◌+◌, ap, sym, ◌∙◌, codes, arith}
use Rattle.cop_dcf.proofs.SectionLemmas.{section_small, file_here, file_put, device_here, device_first, device_second}
use Rattle.cop_dcf.proofs.section_keys.named_sections.Goals as goal

pub returns-in-Some-Some-clause-file : goal.returns-in-Some-Some-clause-file
returns-in-Some-Some-clause-file c = sym (file_here c.args.eds.now c.in-Some-Some.file (sym c.section-file.ensures ∙ c.in-Some-Some.is-0))

pub returns-in-Some-Some-clause-device : goal.returns-in-Some-Some-clause-device
returns-in-Some-Some-clause-device c = sym (device_here c.args.eds.now c.in-Some-Some.device (sym c.section-device.ensures ∙ c.in-Some-Some.is-1))

pub returns-in-Some-Some-clause-most : goal.returns-in-Some-Some-clause-most
returns-in-Some-Some-clause-most c =
    let count = c.section_count-count.ensures.value in
    let file = section_small c.args.eds.now (codes "FileInfo") c.in-Some-Some.file (sym c.section-file.ensures ∙ c.in-Some-Some.is-0) in
    let device = section_small c.args.eds.now (codes "DeviceComissioning") c.in-Some-Some.device (sym c.section-device.ensures ∙ c.in-Some-Some.is-1) in
    (omega arith, omega arith)

pub returns-in-Some-None-clause-file : goal.returns-in-Some-None-clause-file
returns-in-Some-None-clause-file c = sym (file_here c.args.eds.now c.in-Some-None.file (sym c.section-file.ensures ∙ c.in-Some-None.is-0))

pub returns-in-Some-None-clause-device : goal.returns-in-Some-None-clause-device
returns-in-Some-None-clause-device c = ap (λ n. n + 1) c.section_count-count.ensures.value ∙ sym (device_first c.args.eds.now c.in-Some-None.file (sym c.section-file.ensures ∙ c.in-Some-None.is-0) (sym c.section-device.ensures ∙ c.in-Some-None.is-1))

pub returns-in-Some-None-clause-most : goal.returns-in-Some-None-clause-most
returns-in-Some-None-clause-most c =
    let count = c.section_count-count.ensures.value in
    let file = section_small c.args.eds.now (codes "FileInfo") c.in-Some-None.file (sym c.section-file.ensures ∙ c.in-Some-None.is-0) in
    (omega arith, omega arith)

pub returns-in-None-Some-clause-file : goal.returns-in-None-Some-clause-file
returns-in-None-Some-clause-file c = ap (λ n. n + 1) c.section_count-count.ensures.value ∙ sym (file_put c.args.eds.now (sym c.section-file.ensures ∙ c.in-None-Some.is-0))

pub returns-in-None-Some-clause-device : goal.returns-in-None-Some-clause-device
returns-in-None-Some-clause-device c = sym (device_here c.args.eds.now c.in-None-Some.device (sym c.section-device.ensures ∙ c.in-None-Some.is-1))

pub returns-in-None-Some-clause-most : goal.returns-in-None-Some-clause-most
returns-in-None-Some-clause-most c =
    let count = c.section_count-count.ensures.value in
    let device = section_small c.args.eds.now (codes "DeviceComissioning") c.in-None-Some.device (sym c.section-device.ensures ∙ c.in-None-Some.is-1) in
    (omega arith, omega arith)

pub returns-in-None-None-clause-file : goal.returns-in-None-None-clause-file
returns-in-None-None-clause-file c = ap (λ n. n + 1) c.section_count-count.ensures.value ∙ sym (file_put c.args.eds.now (sym c.section-file.ensures ∙ c.in-None-None.is-0))

pub returns-in-None-None-clause-device : goal.returns-in-None-None-clause-device
returns-in-None-None-clause-device c = ap (λ n. n + 2) c.section_count-count.ensures.value ∙ sym (device_second c.args.eds.now (sym c.section-file.ensures ∙ c.in-None-None.is-0) (sym c.section-device.ensures ∙ c.in-None-None.is-1))
