mod SettlingLemmas
mod SaidLemmas
mod ListedLemmas
mod ImagesLemmas
