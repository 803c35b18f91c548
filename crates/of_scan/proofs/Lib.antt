mod Scanning
mod PartLemmas
mod GroupLemmas
mod WordLemmas
mod StringLemmas
