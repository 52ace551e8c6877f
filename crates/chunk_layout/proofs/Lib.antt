mod PieceLaws
mod Shuffling
